-- The parts of the rows left are still to come.
use Rattle.std.proofs.Common.{◌≡◌, ◌++◌, drop, map}
use Rattle.view_coverage.specs.Reported.{part_of, parts_from}
use Rattle.view_coverage.proofs.report.add_parts.Given as goal

abbrev pub invariant-loop-place : goal.invariant-loop-place
invariant-loop-place l =
    map part_of l.parts.items ++ parts_from l.list l.number l.place (drop l.place l.rows)
    ≡ map part_of l.initial.parts.items ++ parts_from l.list l.number 0 l.rows
