-- So many bytes are told, and no write failed yet.
use Rattle.std.proofs.Common.{◌≡◌, false, take}
use Rattle.csv.specs.Writing.{default_writer, escaped}
use Rattle.run_devices.specs.RunOutput.{Tells}
use Rattle.run_scenario.proofs.csv_row.put_escaped.Given as goal

abbrev pub invariant-loop-place : goal.invariant-loop-place
invariant-loop-place g l = record {
  told : Tells (g.K.Sink.contents l.fn.sink) l.fn.gathered (g.K.Sink.contents l.sink) l.gathered
      (escaped default_writer (take l.place l.text));
  works : g.K.Sink.has_failed l.sink ≡ false;
}
