-- The bytes are those of the digits that were read.
use Rattle.std.proofs.Common.{sym, ◌∙◌}
use Rattle.own_model.specs.Text.{bytes_of_hex}
use Rattle.text_codec.proofs.HexLemmas.{bytes_found as bytes_formed}
use Rattle.run_scenario.proofs.ShownLemmas.{bytes_found, bytes_missing, shown_found, shown_missing}
use Rattle.run_scenario.proofs.printable_hex.PrintableHex.of.Goals as goal

pub invariant_of-result : goal.invariant_of-result
invariant_of-result c = record { formed = bytes_formed (bytes_of_hex c.in_ok-hex.hex.now) c.in_ok-hex.ensures.hex }

pub returns-then-are_shown-clause-text : goal.returns-then-are_shown-clause-text
returns-then-are_shown-clause-text c = shown_found c.args.text.now c.in_ok-hex.hex.now c.in_ok-hex.ensures.bytes (sym c.are_shown.ensures ∙ c.if-are_shown.true)

pub returns-else-are_shown-clause-text : goal.returns-else-are_shown-clause-text
returns-else-are_shown-clause-text c = shown_missing c.args.text.now c.in_ok-hex.hex.now c.in_ok-hex.ensures.bytes (sym c.are_shown.ensures ∙ c.if-are_shown.false)

pub returns-then-are_shown-clause-bytes : goal.returns-then-are_shown-clause-bytes
returns-then-are_shown-clause-bytes c = bytes_found c.args.text.now c.in_ok-hex.hex.now c.in_ok-hex.ensures.bytes (sym c.are_shown.ensures ∙ c.if-are_shown.true)

pub returns-else-are_shown-clause-bytes : goal.returns-else-are_shown-clause-bytes
returns-else-are_shown-clause-bytes c = bytes_missing c.args.text.now c.in_ok-hex.hex.now c.in_ok-hex.ensures.bytes (sym c.are_shown.ensures ∙ c.if-are_shown.false)
