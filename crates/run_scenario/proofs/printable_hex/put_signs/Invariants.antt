-- The text of so many bytes is told, and no write failed yet.
use Rattle.std.proofs.Common.{◌≡◌, false, take}
use Rattle.own_model.specs.Text.{hex_bytes}
use Rattle.run_devices.specs.RunOutput.{Tells}
use Rattle.run_scenario.specs.Texts.{characters_text, written_in}
use Rattle.run_scenario.proofs.printable_hex.put_signs.Given as goal

abbrev pub invariant-loop-place : goal.invariant-loop-place
invariant-loop-place g l = record {
  told : Tells (g.K.Sink.contents l.fn.sink) l.fn.gathered (g.K.Sink.contents l.sink) l.gathered
      (written_in l.in_cell (characters_text (take l.place (hex_bytes l.hex))));
  works : g.K.Sink.has_failed l.sink ≡ false;
}
