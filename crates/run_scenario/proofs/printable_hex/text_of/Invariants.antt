-- The text of so many bytes.
use Rattle.std.proofs.Common.{◌≡◌, take}
use Rattle.own_model.specs.Text.{hex_bytes}
use Rattle.run_scenario.specs.Texts.{characters_text}
use Rattle.run_scenario.proofs.printable_hex.text_of.Given as goal

abbrev pub invariant-loop-place : goal.invariant-loop-place
invariant-loop-place l = l.text.items ≡ characters_text (take l.place (hex_bytes l.hex))
