-- Hexadecimal digits read one by one from the left.
use Rattle.std.proofs.Common.{◌≡◌, ℕ, ◌+◌, ◌*◌, ◌^◌, ◌<◌, ◌≤◌, List, ◌∷◌, length, get_or, drop, Some, None, arith}
use Rattle.std.proofs.Math.Nat.{pow-le-pow_right}
use Rattle.std.proofs.lemmas.Grind.{pow_more}
use Rattle.std.proofs.lemmas.List.{at_drop_more, at_drop_all}
use Rattle.std.proofs.lemmas.Bool.Decides.{nat_tests}
use Rattle.own_model.specs.Text.{hex_digit_of, hex_number_after}

-- the digit at a place is the first of what stands from there on
from_place : (n : ℕ) (ds : List ℕ) (i : ℕ) → i < length ds → hex_number_after n (drop i ds) ≡ hex_number_after n (get_or ds i 0 ∷ drop (i + 1) ds)
from_place n ds i here = at_drop_more (hex_number_after n) ds i 0 here

-- no number has another byte
pub stops_at_other : (n : ℕ) (ds : List ℕ) (i : ℕ) → i < length ds → hex_digit_of (get_or ds i 0) ≡ None → hex_number_after n (drop i ds) ≡ None
stops_at_other n ds i here other = rw (from_place n ds i here, other)

-- a digit in turn
pub goes_on : (n : ℕ) (ds : List ℕ) (i d : ℕ) → i < length ds → hex_digit_of (get_or ds i 0) ≡ Some d → hex_number_after n (drop i ds) ≡ hex_number_after (n * 16 + d) (drop (i + 1) ds)
goes_on n ds i d here digit = rw (from_place n ds i here, digit)

-- the number after its last digit
pub number_at_end : (n : ℕ) (ds : List ℕ) (i : ℕ) → length ds ≤ i → hex_number_after n (drop i ds) ≡ Some n
number_at_end n ds i done = at_drop_all (hex_number_after n) ds i done

-- a digit is below 16
pub digit_below : (b d : ℕ) → hex_digit_of b ≡ Some d → d < 16
digit_below b d e = grind (arith, nat_tests)

-- one more digit stays below the next power of 16
pub grows : (n i d : ℕ) → n < 16 ^ i → d < 16 → n * 16 + d < 16 ^ (i + 1)
grows n i d small digit = omega (arith, pow_more 16 i)

-- fewer than 16 digits leave room for one more in 64 bits
pub has_room : (n i : ℕ) → n < 16 ^ i → i < 16 → n * 16 + 15 < 2 ^ 64
has_room n i small few =
    let least : 16 ^ i ≤ 16 ^ 15 = pow-le-pow_right {n = 16} (omega arith) {i = i} {j = 15} (omega arith) in
    omega arith

-- what a reader of digits knows of each
pub ruleset hex_digits = (stops_at_other, goes_on, number_at_end, digit_below, grows)
