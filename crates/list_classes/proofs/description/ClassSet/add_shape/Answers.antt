-- The shape of the part, if there is its class.
use Rattle.std.proofs.Common.{ap, ◌∙◌}
use Rattle.std.specs.List.{list_any}
use Rattle.list_labels.specs.LabelSets.{has_label, is_in}
use Rattle.list_classes.specs.Parts.{has_any_pattern}
use Rattle.list_classes.proofs.PartLemmas.{class_is, class_none, shape_more, shape_none}
use Rattle.list_classes.proofs.description.ClassSet.add_shape.Goals as goal

pub returns-in_ok-push : goal.returns-in_ok-push
returns-in_ok-push c =
    let classes = c.args.self.now.classes.now in
    let class = c.in-Some.class.now in
    let part = c.args.part.now in
    let there = class_is classes c.as_slice.result.now part.place class c.as_slice.ensures c.in-Some.ensures.lookup.3.0 c.in-Some.ensures.lookup.1 in
    λ label. ap (list_any (is_in label)) c.in_ok-push.ensures.items
    ∙ shape_more classes part label c.args.shapes.now.items class c.new.result there (c.new.ensures.pattern ∙ c.pattern.ensures)
    (ap (λ except. list_any (has_label label) except.items) c.new.ensures.except
    ∙ (c.in_ok-except.ensures label ∙ ap (has_any_pattern classes class.front class.end label) c.as_slice-in-Some.ensures.value))

pub returns-in_default : goal.returns-in_default
returns-in_default c =
    let classes = c.args.self.now.classes.now in
    λ label. shape_none classes c.args.part.now label c.args.shapes.now.items
    (class_none classes c.as_slice.result.now c.args.part.now.place c.as_slice.ensures c.in_default.ensures.lookup.3)
