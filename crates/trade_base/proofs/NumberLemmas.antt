-- A number read digit by digit from the left.
use Rattle.std.proofs.Common.{◌≡◌, ℕ, ◌+◌, ◌-◌, ◌*◌, ◌^◌, ◌<◌, ◌≤◌, ◌&&◌, true, false, cond, List, [], ◌∷◌, length, get_or, drop, ◌∙◌, Option, Some, None, refl, arith}
use Rattle.std.specs.Prelude.{nat_lt}
use Rattle.std.specs.Char.{is_ascii_digit, digit_value}
use Rattle.std.specs.Str.{all_ascii_digits}
use Rattle.std.specs.Str.Parse.{digits_value_after}
use Rattle.std.proofs.lemmas.List.{at_drop_more, at_drop_all}
use Rattle.std.proofs.lemmas.Bool.Decides.{nat_tests}
use Rattle.std.proofs.Math.Bool.{and-false}
use Rattle.trade_base.specs.Amount.{number_of}

-- the number that digits stand for which follow those of n, if it is below 2^64
unfoldable pub number_from : ℕ → List ℕ → Option ℕ
number_from n ds =
    cond (all_ascii_digits ds && nat_lt (digits_value_after 10 n ds) (2 ^ 64)) (Some (digits_value_after 10 n ds)) None

-- a digit weighs what it is above 48
digit_value-digit : (d : ℕ) → is_ascii_digit d ≡ true → digit_value d ≡ d - 48
digit_value-digit d digit = grind (arith, nat_tests)

-- digits never make a number less
digits_value_after-ge : (n : ℕ) (ds : List ℕ) → n ≤ digits_value_after 10 n ds
digits_value_after-ge n [] = omega arith
digits_value_after-ge n (d ∷ ds) = omega (arith, digits_value_after-ge (n * 10 + digit_value d) ds)

-- no number has another byte
number_from-other : (n d : ℕ) (ds : List ℕ) → is_ascii_digit d ≡ false → number_from n (d ∷ ds) ≡ None
unfolding number_from
number_from-other n d ds other = rw other

-- a digit in turn
number_from-digit : (n d : ℕ) (ds : List ℕ) → is_ascii_digit d ≡ true → number_from n (d ∷ ds) ≡ number_from (n * 10 + (d - 48)) ds
unfolding number_from
number_from-digit n d ds digit = rw (digit, digit_value-digit d digit)

-- what is past 64 bits stays past them
number_from-past : (n : ℕ) (ds : List ℕ) → 2 ^ 64 ≤ n → number_from n ds ≡ None
unfolding number_from
number_from-past n ds past =
    let too_long : nat_lt (digits_value_after 10 n ds) (2 ^ 64) ≡ false = grind (arith, nat_tests, digits_value_after-ge n ds) in
    rw (too_long, and-false)

-- the number after its last digit
pub number_from-end : (n : ℕ) → n < 2 ^ 64 → number_from n [] ≡ Some n
unfolding number_from
number_from-end n small = grind (arith, nat_tests)

-- the model's word
number_of-digits : (d : ℕ) (ds : List ℕ) → number_of (d ∷ ds) ≡ number_from 0 (d ∷ ds)
unfolding number_from
number_of-digits d ds = let some : nat_lt 0 (length (d ∷ ds)) ≡ true = grind (arith, nat_tests) in rw some

-- the same, along a loop over the digits: before its end, at a digit and at another byte
pub from_place : (n : ℕ) (ds : List ℕ) (i : ℕ) → i < length ds → number_from n (drop i ds) ≡ number_from n (get_or ds i 0 ∷ drop (i + 1) ds)
from_place n ds i here = at_drop_more (number_from n) ds i 0 here

-- with another byte ahead there is no number
pub stops_at_other : (n : ℕ) (ds : List ℕ) (i : ℕ) → i < length ds → is_ascii_digit (get_or ds i 0) ≡ false → number_from n (drop i ds) ≡ None
stops_at_other n ds i here other = from_place n ds i here ∙ number_from-other n _ _ other

-- with a digit ahead the number goes on by it
pub goes_on : (n : ℕ) (ds : List ℕ) (i : ℕ) → i < length ds → is_ascii_digit (get_or ds i 0) ≡ true → number_from n (drop i ds) ≡ number_from (n * 10 + (get_or ds i 0 - 48)) (drop (i + 1) ds)
goes_on n ds i here digit = from_place n ds i here ∙ number_from-digit n _ _ digit

-- unless it is then past 64 bits
pub stops_past : (n : ℕ) (ds : List ℕ) (i : ℕ) → i < length ds → is_ascii_digit (get_or ds i 0) ≡ true → 2 ^ 64 ≤ n * 10 + (get_or ds i 0 - 48) → number_from n (drop i ds) ≡ None
stops_past n ds i here digit past = goes_on n ds i here digit ∙ number_from-past _ _ past

-- at the end the number is what it is so far
pub number_at_end : (n : ℕ) (ds : List ℕ) (i : ℕ) → n < 2 ^ 64 → length ds ≤ i → number_from n (drop i ds) ≡ Some n
number_at_end n ds i small done = at_drop_all (number_from n) ds i done ∙ number_from-end n small

-- the model's word, of some digits and of none
pub number_of_some : (ds : List ℕ) → 0 < length ds → number_of ds ≡ number_from 0 ds
number_of_some [] some = absurd (omega arith)
number_of_some (d ∷ ds) some = number_of-digits d ds

-- without digits there is no number
pub number_of_none : (ds : List ℕ) → length ds ≡ 0 → number_of ds ≡ None
number_of_none [] none = refl
number_of_none (d ∷ ds) none = absurd (omega arith)
