-- The number so far goes on to the same result, and has no more digits than were read.
use Rattle.std.proofs.Common.{◌≡◌, ◌^◌, ◌<◌, drop}
use Rattle.own_model.specs.Text.{hex_number_after}
use Rattle.text_codec.proofs.address.read_digits.Given as goal

abbrev pub invariant-loop-digit : goal.invariant-loop-digit
invariant-loop-digit l = (hex_number_after l.number (drop l.digit-index l.digits) ≡ hex_number_after 0 l.digits) × (l.number < 16 ^ l.digit-index)
