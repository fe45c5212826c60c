use Rattle.std.proofs.Common.{◌-◌, ◌≡◌, ◌≤◌}
use Rattle.own_model.specs.OwnState.{zeros}
use Rattle.dataspace_core.specs.Store.{with_bytes_at}
use Rattle.heap_core.proofs.clear.clear.Given as goal

abbrev pub invariant-loop-done : goal.invariant-loop-done
invariant-loop-done l = record {
  put : l.memory ≡ with_bytes_at l.initial.memory l.ds.0 l.offset (zeros l.done);
  within : l.done ≤ l.count;
}

abbrev pub decreases-loop-done : goal.decreases-loop-done
decreases-loop-done l = l.count - l.done
