-- So many of the bytes are told, and no write failed yet.
use Rattle.std.proofs.Common.{◌≡◌, ◌-◌, ◌≤◌, false, length, take}
use Rattle.run_devices.specs.RunOutput.{Tells}
use Rattle.run_devices.proofs.write_buffer.WriteBuffer.put_in_pieces.Given as goal

abbrev pub invariant-loop-done : goal.invariant-loop-done
invariant-loop-done g l = record {
  within : l.done ≤ length l.bytes;
  told : Tells (g.K.Sink.contents l.fn.sink) l.fn.self (g.K.Sink.contents l.sink) l.self (take l.done l.bytes);
  works : g.K.Sink.has_failed l.sink ≡ false;
}

abbrev pub decreases-loop-done : goal.decreases-loop-done
decreases-loop-done g l = length l.bytes - l.done
