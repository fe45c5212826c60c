-- The witness at a place has so many bytes, or it is passed.
use Rattle.std.proofs.Common.{◌≡◌, subst, sym, true}
use Rattle.list_labels.specs.Asked.{is_given}
use Rattle.list_classes.specs.declared.label_class.LabelClass.{LabelClass}
use Rattle.list_reach.specs.Deciding.{KeepsDecision}
use Rattle.list_reach.proofs.TrailLemmas.{seen_more}
use Rattle.list_reach.proofs.route_decisions.keep_if.Goals as goal

pub keep-requires-clause-given : goal.keep-requires-clause-given
keep-requires-clause-given c =
    subst (λ (class : LabelClass). is_given class.witness ≡ true) c.index-classes-place.is c.index-classes-place.result.given

pub keep-requires-clause-trails : goal.keep-requires-clause-trails
keep-requires-clause-trails c = c.requires.seen.told

pub returns : goal.returns
returns c =
    let wishes = c.args.wishes in
    seen_more wishes.list.now wishes.client wishes.service.now c.args.classes.now c.args.size c.args.place c.index-classes-place.result
    c.args.trails.now.items c.keep.new.trails.items c.requires.within (sym c.index-classes-place.is) c.requires.seen
    (subst
    (λ (class : LabelClass). KeepsDecision wishes.list.now wishes.client wishes.service.now class.witness c.args.trails.now.items c.keep.new.trails.items)
    (sym c.index-classes-place.is) c.in_ok-keep.ensures)
