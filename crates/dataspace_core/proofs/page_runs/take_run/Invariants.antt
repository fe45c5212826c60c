-- What was taken so far is a new run, and the table is where it was.
use Rattle.std.proofs.Common.{◌≡◌, vec_capacity}
use Rattle.dataspace_core.specs.Layout.{IsNewRun}
use Rattle.dataspace_core.proofs.page_runs.take_run.Given as goal

abbrev pub invariant-loop-index : goal.invariant-loop-index
invariant-loop-index l = record {
  run : IsNewRun l.initial.pool l.initial.table.items l.pool l.table.items l.start l._index;
  capacity : vec_capacity l.table ≡ vec_capacity l.initial.table;
}
