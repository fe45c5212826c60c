-- All bytes so far can be shown.
use Rattle.std.proofs.Common.{◌≡◌, drop}
use Rattle.std.specs.List.{list_all}
use Rattle.own_model.specs.Text.{hex_bytes}
use Rattle.run_scenario.specs.Texts.{is_shown}
use Rattle.run_scenario.proofs.printable_hex.are_shown.Given as goal

abbrev pub invariant-loop-place : goal.invariant-loop-place
invariant-loop-place l = list_all is_shown (drop l.place (hex_bytes l.hex)) ≡ list_all is_shown (hex_bytes l.hex)
