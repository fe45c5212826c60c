-- The text of all bytes before the next is output, and no write failed yet.
use Rattle.std.proofs.Common.{◌≡◌, false, map, drop}
use Rattle.std.specs.List.{flat_map}
use Rattle.own_model.specs.Text.{hex_bytes}
use Rattle.view_diagnostics.specs.Diagnostics.{shown}
use Rattle.view_diagnostics.proofs.FrontLemmas.{OutputsFront}
use Rattle.run_scenario.specs.Complaints.{message_character}
use Rattle.run_scenario.proofs.printable_hex.put_message_signs.Given as goal

abbrev pub invariant-loop-place : goal.invariant-loop-place
invariant-loop-place g l = record {
  front : OutputsFront (flat_map (shown l.fn.diagnostics.subject.form) (map message_character (hex_bytes l.hex)))
      (flat_map (shown l.fn.diagnostics.subject.form) (map message_character (drop l.place (hex_bytes l.hex))))
      (g.K.Sink.contents l.fn.sink) l.fn.diagnostics.gathered (g.K.Sink.contents l.sink) l.diagnostics.gathered;
  subject : l.diagnostics.subject ≡ l.fn.diagnostics.subject;
  works : g.K.Sink.has_failed l.sink ≡ false;
}
