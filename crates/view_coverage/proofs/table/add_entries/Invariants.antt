-- The rules of the entries left are still to come.
use Rattle.std.proofs.Common.{◌≡◌, ◌++◌, drop}
use Rattle.view_coverage.specs.Covered.{rows_of_entries}
use Rattle.view_coverage.proofs.table.add_entries.Given as goal

abbrev pub invariant-loop-number : goal.invariant-loop-number
invariant-loop-number l =
    l.initial.rows.items ++ rows_of_entries 0 l.entries ≡ l.rows.items ++ rows_of_entries l.number (drop l.number l.entries)
