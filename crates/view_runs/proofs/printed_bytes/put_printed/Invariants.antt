-- So many bytes are gathered, and no write has failed yet.
use Rattle.std.proofs.Common.{◌≡◌, false, map, take}
use Rattle.own_model.specs.Reply.{printed}
use Rattle.run_devices.specs.RunOutput.{Tells}
use Rattle.view_runs.proofs.printed_bytes.put_printed.Given as goal

abbrev pub invariant-loop-byte : goal.invariant-loop-byte
invariant-loop-byte g l = record {
  told : Tells (g.K.Sink.contents l.fn.sink) l.fn.gathered (g.K.Sink.contents l.sink) l.gathered (map printed (take l.byte-index l.bytes));
  works : g.K.Sink.has_failed l.sink ≡ false;
}
