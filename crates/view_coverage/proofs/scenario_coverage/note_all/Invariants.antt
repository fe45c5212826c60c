-- The answers that are left give the same as all.
use Rattle.std.proofs.Common.{◌≡◌, drop, map}
use Rattle.view_coverage.specs.Covered.{answer_of, rows_after}
use Rattle.view_coverage.proofs.scenario_coverage.note_all.Given as goal

abbrev pub invariant-loop-exchange : goal.invariant-loop-exchange
invariant-loop-exchange l =
    rows_after l.list (map answer_of (drop l.exchange-index l.exchanges)) l.rows ≡ rows_after l.list (map answer_of l.exchanges) l.initial.rows
