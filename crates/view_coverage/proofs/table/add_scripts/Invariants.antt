-- The session requests of the entries left are still to come.
use Rattle.std.proofs.Common.{◌≡◌, ◌++◌, drop}
use Rattle.view_coverage.specs.Covered.{scripts_rows}
use Rattle.view_coverage.proofs.table.add_scripts.Given as goal

abbrev pub invariant-loop-number : goal.invariant-loop-number
invariant-loop-number l =
    l.initial.rows.items ++ scripts_rows l.list.entries 0 l.list.entries
    ≡ l.rows.items ++ scripts_rows l.list.entries l.number (drop l.number l.list.entries)
