-- The services so far don't have the name.
use Rattle.std.proofs.Common.{◌≡◌, drop}
use Rattle.own_model.specs.Listed.{services_of}
use Rattle.view_coverage.specs.Covered.{service_number}
use Rattle.view_coverage.proofs.deciding_rules.service_number.Given as goal

abbrev pub invariant-loop-number : goal.invariant-loop-number
invariant-loop-number l =
    service_number l.name l.number (drop l.number (services_of l.list.entries)) ≡ service_number l.name 0 (services_of l.list.entries)
