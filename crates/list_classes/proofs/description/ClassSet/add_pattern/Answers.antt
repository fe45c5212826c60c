-- The pattern of the class, if there is one.
use Rattle.std.proofs.Common.{ap, ◌∙◌}
use Rattle.std.specs.List.{list_any}
use Rattle.list_labels.specs.LabelSets.{has_label}
use Rattle.list_classes.proofs.PartLemmas.{class_is, class_none, pattern_more, pattern_none}
use Rattle.list_classes.proofs.description.ClassSet.add_pattern.Goals as goal

pub returns-in_ok-push : goal.returns-in_ok-push
returns-in_ok-push c =
    let classes = c.args.self.now.classes.now in
    let there = class_is classes c.as_slice.result.now c.args.place c.in-Some.other.now c.as_slice.ensures c.in-Some.ensures.lookup.3.0 c.in-Some.ensures.lookup.1 in
    λ label. ap (list_any (has_label label)) c.in_ok-push.ensures.items
    ∙ pattern_more classes c.args.class.now.front c.args.class.now.end c.args.place label c.args.patterns.now.items c.in-Some.other.now c.pattern.result there c.pattern.ensures

pub returns-in_default : goal.returns-in_default
returns-in_default c =
    let classes = c.args.self.now.classes.now in
    λ label. pattern_none classes c.args.class.now.front c.args.class.now.end c.args.place label c.args.patterns.now.items
    (class_none classes c.as_slice.result.now c.args.place c.as_slice.ensures c.in_default.ensures.lookup.3)
