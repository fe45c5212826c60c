-- What is left of the list has an entry that provides the service exactly if the list has.
use Rattle.std.proofs.Common.{◌≡◌, drop}
use Rattle.std.specs.List.{list_any}
use Rattle.own_model.specs.Listed.{offers}
use Rattle.run_scenario.specs.UnknownNames.{is_provided}
use Rattle.run_scenario.proofs.unknown_names.is_provided.Given as goal

abbrev pub invariant-loop-entry : goal.invariant-loop-entry
invariant-loop-entry l =
    list_any (λ entry. offers entry.home l.service entry) (drop l.entry-index l.entry-items) ≡ is_provided l.list l.service
