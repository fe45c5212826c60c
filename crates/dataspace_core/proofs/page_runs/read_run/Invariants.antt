-- So much of the buffer is filled.
use Rattle.std.proofs.Common.{◌≡◌, ◌-◌, ◌≤◌, length, take, drop}
use Rattle.dataspace_core.specs.Layout.{run_bytes}
use Rattle.dataspace_core.proofs.page_runs.read_run.Given as goal

abbrev pub invariant-loop-done : goal.invariant-loop-done
invariant-loop-done l = record {
  within : l.done ≤ length l.buffer;
  so_far : take l.done l.buffer ≡ take l.done (drop l.offset (run_bytes l.pool l.table.items l.run.start l.run.count));
}

abbrev pub decreases-loop-done : goal.decreases-loop-done
decreases-loop-done l = length l.initial.buffer - l.done
