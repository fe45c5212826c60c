-- The services left are still to come.
use Rattle.std.proofs.Common.{◌≡◌, ◌++◌, drop}
use Rattle.own_model.specs.Listed.{services_of}
use Rattle.view_coverage.specs.Covered.{services_rows}
use Rattle.view_coverage.proofs.table.add_services.Given as goal

abbrev pub invariant-loop-service : goal.invariant-loop-service
invariant-loop-service l =
    l.rows.items ++ services_rows l.list.entries l.client l.service (drop l.service (services_of l.list.entries))
    ≡ l.initial.rows.items ++ services_rows l.list.entries l.client 0 (services_of l.list.entries)
