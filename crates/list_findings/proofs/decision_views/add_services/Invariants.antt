use Rattle.std.proofs.Common.{◌≡◌, ◌++◌, drop}
use Rattle.own_model.specs.Listed.{services_of}
use Rattle.list_findings.proofs.decision_views.add_services.Given as goal

-- the services so far and those that are left
abbrev pub invariant-loop-number : goal.invariant-loop-number
invariant-loop-number l =
    l.found.items ++ drop l.number (services_of l.list.entries) ≡ l.initial.found.items ++ services_of l.list.entries
