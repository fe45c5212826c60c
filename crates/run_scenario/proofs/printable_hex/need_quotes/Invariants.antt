-- No byte so far calls for quotes.
use Rattle.std.proofs.Common.{◌≡◌, drop}
use Rattle.csv.specs.Writing.{default_writer, needs_quotes}
use Rattle.own_model.specs.Text.{hex_bytes}
use Rattle.run_scenario.specs.Texts.{characters_text}
use Rattle.run_scenario.proofs.printable_hex.need_quotes.Given as goal

abbrev pub invariant-loop-place : goal.invariant-loop-place
invariant-loop-place l =
    needs_quotes default_writer (characters_text (drop l.place (hex_bytes l.hex))) ≡ needs_quotes default_writer (characters_text (hex_bytes l.hex))
