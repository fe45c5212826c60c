-- So much was written, and nothing failed yet.
use Rattle.std.proofs.Common.{◌≡◌, ◌-◌, ◌≤◌, false, length, take}
use Rattle.std.specs.Io.KnownBytes.{Appends}
use Rattle.run_devices.proofs.write_buffer.write_out.Given as goal

abbrev pub invariant-loop-done : goal.invariant-loop-done
invariant-loop-done g l = record {
  within : l.done ≤ length l.bytes;
  written : Appends (g.K.Sink.contents l.initial.sink) (g.K.Sink.contents l.sink) (take l.done l.bytes);
  works : g.K.Sink.has_failed l.sink ≡ false;
}

abbrev pub decreases-loop-done : goal.decreases-loop-done
decreases-loop-done g l = length l.bytes - l.done
