-- By the shortest of the labels that the server gains against no list.
use Rattle.std.proofs.Common.{◌∙◌, List, ℕ, Option, Some, None, true, ap, subst, sym}
use Rattle.std.specs.List.{list_all}
use Rattle.list_labels.specs.GivenLabels.{leads_to}
use Rattle.list_reach.specs.Comparisons.{IsShortestBy}
use Rattle.list_reach.specs.RoutedLabels.{is_gained, is_moved, routed_on}
use Rattle.list_reach.proofs.ReachLemmas.{reach_always, reach_by, reach_never, reach_some}
use Rattle.list_reach.proofs.comparison.RouteComparison.reach.Goals as goal

pub returns-in-None : goal.returns-in-None
returns-in-None c = λ list client service compares shortest.
    reach_never list client service c.args.server
    (subst (λ (w : Option (List ℕ)). IsShortestBy (routed_on None) (leads_to list client service) (is_gained None (Some c.args.server)) w) c.in-None.is shortest)

pub returns-in-Some : goal.returns-in-Some
returns-in-Some c = λ list client service compares shortest.
    reach_always list client service c.args.server c.args.self.now compares
    (ap (list_all (is_moved (record { is_gain = true; was = None; now = Some c.args.server }))) (sym c.as_slice.ensures.value)
    ∙ (sym c.all_moved.ensures ∙ c.if-all_moved.true))

pub returns-in-Some-2 : goal.returns-in-Some-2
returns-in-Some-2 c = λ list client service compares shortest. (
  reach_by list client service c.args.server c.in-Some.field-0
      (subst (λ (w : Option (List ℕ)). IsShortestBy (routed_on None) (leads_to list client service) (is_gained None (Some c.args.server)) w) c.in-Some.is shortest),
  reach_some list client service c.args.server c.args.self.now compares
      (ap (list_all (is_moved (record { is_gain = true; was = None; now = Some c.args.server }))) (sym c.as_slice.ensures.value)
      ∙ (sym c.all_moved.ensures ∙ c.if-all_moved.false)),
)
