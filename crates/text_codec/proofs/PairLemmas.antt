-- Bytes and pairs of hexadecimal digits: masks of both halves of a word, and steps of the loops over pairs.
use Rattle.std.proofs.Common.{◌≡◌, ℕ, ◌+◌, ◌*◌, ◌/◌, ◌%◌, ◌<◌, List, [], ◌∷◌, ◌++◌, length, take, drop, slice_index, slice_set, Some, true, refl, arith, bit_and, eqb}
use Rattle.std.proofs.lemmas.Nat.{and_block, and_mask, shr_split}
use Rattle.std.proofs.lemmas.Nat.Bits.{and_pow}
use Rattle.std.proofs.lemmas.Bool.Decides.{nat_tests}
use Rattle.std.proofs.lemmas.Bool.{agree_below_at, eqb-true}
use Rattle.hex.specs.Hex.{encode_lower, hex_digit_value, lower_digits}
use Rattle.hex.proofs.Pairs.{encode_step}
use Rattle.text_codec.specs.Digits.{bits_value, bits_digit}

-- a mask of both halves of a word
masked : (n a b : ℕ) → b < 256 → bit_and n (a * 256 + b) ≡ bit_and (n / 256) a * 256 + bit_and (n % 256) b
masked n a b small =
    let whole : n / 256 * 256 + n % 256 ≡ n = shr_split n 8 in
    rw whole at (and_block 8 (n / 256) a (n % 256) b (omega arith) small)

-- the low four bits of both halves
low_bits : (n : ℕ) → bit_and n 3855 ≡ n / 256 % 16 * 256 + n % 256 % 16
low_bits n = rw (masked n 15 15 (omega arith), and_mask (n / 256) 4, and_mask (n % 256) 4) refl

-- the bits that letters have, of both halves
letter_bits : (n : ℕ) → bit_and n 16448 ≡ n / 256 / 64 % 2 * 64 * 256 + n % 256 / 64 % 2 * 64
letter_bits n = rw (masked n 64 64 (omega arith), and_pow (n / 256) 6, and_pow (n % 256) 6) refl

-- the bits that are carried from values above nine, of both halves
carry_bits : (n : ℕ) → bit_and n 4112 ≡ n / 256 / 16 % 2 * 16 * 256 + n % 256 / 16 % 2 * 16
carry_bits n = rw (masked n 16 16 (omega arith), and_pow (n / 256) 4, and_pow (n % 256) 4) refl

-- the values of two digits by their bits
pub values_by_bits : (n : ℕ) → bit_and n 3855 + 9 * (bit_and n 16448 / 64) ≡ bits_value (n / 256) * 256 + bits_value (n % 256)
values_by_bits n = rw (low_bits n, letter_bits n) (omega arith)

-- the digits of two values by their bits
pub digits_by_bits : (n : ℕ) → n % 256 < 16 → n / 256 < 16 → n + 12336 + 39 * (bit_and (n + 1542) 4112 / 16) ≡ bits_digit (n / 256) * 256 + bits_digit (n % 256)
digits_by_bits n first second =
    let high : (n + 1542) / 256 ≡ n / 256 + 6 = omega arith in
    let low : (n + 1542) % 256 ≡ n % 256 + 6 = omega arith in
    rw (carry_bits (n + 1542), high, low) (omega arith)

-- a digit's value is that of its bits
pub value_of : (digit value : ℕ) → hex_digit_value digit ≡ Some value → value ≡ bits_value digit
value_of digit value is = grind (arith, nat_tests)

-- a value's digit is that of its bits
pub digit_of : (value : ℕ) → value < 16 → bits_digit value ≡ slice_index lower_digits value
digit_of value small =
    search (arith, eqb-true (bits_digit value) (slice_index lower_digits value) (agree_below_at (λ v. eqb (bits_digit v) (slice_index lower_digits v)) (λ _. true) 16 value refl small))

-- the digits of one byte more are written
pub encode_next : (input output pair : List ℕ) (i : ℕ) → i < length input → 2 * i + 1 < length output → slice_index input i < 256 →
    pair ≡ bits_digit (slice_index input i / 16) ∷ bits_digit (slice_index input i % 16) ∷ [] →
    take (2 * i) output ++ encode_lower (drop i input) ≡ encode_lower input →
    take (2 * (i + 1)) (slice_set (slice_set output (2 * i) (slice_index pair 0)) (2 * i + 1) (slice_index pair 1)) ++ encode_lower (drop (i + 1) input) ≡ encode_lower input
encode_next input output pair i here fits small is so_far =
    let byte = slice_index input i in
    let high : slice_index pair 0 ≡ slice_index lower_digits (byte / 16) = rw is (digit_of (byte / 16) (omega arith)) in
    let low : slice_index pair 1 ≡ slice_index lower_digits (byte % 16) = rw is (digit_of (byte % 16) (omega arith)) in
    encode_step lower_digits input output i _ _ here fits high low so_far
