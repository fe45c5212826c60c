-- So much of the part is written.
use Rattle.std.proofs.Common.{◌-◌, ◌≤◌, length, take}
use Rattle.dataspace_core.specs.Layout.{IsWritten}
use Rattle.dataspace_core.proofs.page_runs.write_run.Given as goal

abbrev pub invariant-loop-done : goal.invariant-loop-done
invariant-loop-done l = record {
  within : l.done ≤ length l.part;
  so_far : IsWritten l.initial.pool l.pool l.table.items l.run.start l.run.count l.offset (take l.done l.part);
}

abbrev pub decreases-loop-done : goal.decreases-loop-done
decreases-loop-done l = length l.part - l.done
