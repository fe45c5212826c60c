-- The rows so far are noted, and the others as they were.
use Rattle.std.proofs.Common.{◌≡◌, ◌++◌, map, take, drop}
use Rattle.view_coverage.specs.Covered.{evidence_in, row_with}
use Rattle.view_coverage.proofs.row.CallEvidence.note.Given as goal

abbrev pub invariant-loop-row : goal.invariant-loop-row
invariant-loop-row l =
    l.rows ≡ map (row_with (evidence_in l.self)) (take l.row-index l.initial.rows)
    ++ drop l.row-index l.initial.rows
