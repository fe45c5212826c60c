-- The label of the class found, or that there is none.
use Rattle.std.proofs.Common.{ℕ, List, Option, Some, None, ap, subst, sym}
use Rattle.std.specs.Option.{option_copied}
use Rattle.list_classes.specs.declared.label_class.LabelClass.{LabelClass}
use Rattle.list_reach.specs.RangeReach.{IsShortestInRange, is_routed_in, witness_length}
use Rattle.list_reach.specs.RoutedLabels.{routed_on}
use Rattle.list_reach.specs.Shortest.{IsShortest}
use Rattle.list_reach.proofs.WitnessLemmas.{range_never, range_shortest}
use Rattle.list_reach.proofs.client_reach.shortest_in_range.Goals as goal

pub returns-in-Some : goal.returns-in-Some
returns-in-Some c =
    let wishes = c.args.wishes in
    let test = is_routed_in c.args.range.now (routed_on (Some wishes)) c.args.server in
    let classes = c.in_ok-classes.classes in
    subst (λ (l : List ℕ). IsShortestInRange c.args.range.now wishes.list.now wishes.client wishes.service.now c.args.server l) (sym c.copy.ensures)
    (range_shortest c.args.range.now wishes c.args.server classes c.in-Some.class.now c.in_ok-classes.ensures.whole c.in_ok-classes.ensures.one
    c.in_ok-classes.ensures.range
    (subst (λ (cs : List LabelClass). IsShortest witness_length test cs (Some c.in-Some.class.now)) c.as_slice.ensures
    (subst (λ (o : Option LabelClass). IsShortest witness_length test c.as_slice.result.now o) (ap option_copied c.in-Some.is) c.shortest.ensures)))

pub returns : goal.returns
returns c =
    let wishes = c.args.wishes in
    let test = is_routed_in c.args.range.now (routed_on (Some wishes)) c.args.server in
    range_never c.args.range.now wishes c.args.server c.in_ok-classes.classes c.in_ok-classes.ensures.whole c.in_ok-classes.ensures.one
    c.in_ok-classes.ensures.range
    (subst (λ (cs : List LabelClass). IsShortest witness_length test cs None) c.as_slice.ensures
    (subst (λ (o : Option LabelClass). IsShortest witness_length test c.as_slice.result.now o) (ap option_copied c.in-None.is) c.shortest.ensures))
