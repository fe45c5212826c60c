-- As many bytes as are done are copied.
use Rattle.std.proofs.Common.{◌≡◌, ◌+◌, ◌-◌, ◌≤◌}
use Rattle.std.specs.Prelude.{slice_range}
use Rattle.dataspace_core.specs.Store.{space_at, with_bytes_at}
use Rattle.dataspace_core.proofs.memory.Memory.copy.Given as goal

abbrev pub invariant-loop-done : goal.invariant-loop-done
invariant-loop-done l = record {
  within : l.done ≤ l.count;
  copied : l.self ≡ with_bytes_at l.initial.self l.to.0 l.to_offset
      (slice_range (space_at l.initial.self l.from.0).bytes l.from_offset (l.from_offset + l.done));
}

abbrev pub decreases-loop-done : goal.decreases-loop-done
decreases-loop-done l = l.count - l.done
