-- Fewer than 16 digits leave room for one more.
use Rattle.std.proofs.Common.{◌<◌, arith}
use Rattle.text_codec.proofs.AddressLemmas.{has_room, digit_below}
use Rattle.text_codec.proofs.address.read_digits.Goals as goal

pub overflow_mul-number : goal.overflow_mul-number
overflow_mul-number c =
    let few : c.loop-digit.digit-index < 16 = omega arith in
    omega (arith, has_room _ _ c.loop-digit.invariant.1 few)

pub overflow_add-number : goal.overflow_add-number
overflow_add-number c =
    let few : c.loop-digit.digit-index < 16 = omega arith in
    let small : c.in_ok-hex_digit.field-0 < 16 = grind (arith, digit_below) in
    omega (arith, has_room _ _ c.loop-digit.invariant.1 few, small)
