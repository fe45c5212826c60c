-- The rules so far are there.
use Rattle.std.proofs.Common.{◌≡◌, ◌++◌}
use Rattle.view_coverage.specs.Covered.{route_rows}
use Rattle.view_coverage.proofs.table.add_rules.Given as goal

abbrev pub invariant-loop-place : goal.invariant-loop-place
invariant-loop-place l = l.rows.items ≡ l.initial.rows.items ++ route_rows l.route l.place
