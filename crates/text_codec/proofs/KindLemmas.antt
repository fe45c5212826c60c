-- What is told of a byte without a test of it is held against the test at each of the 256 bytes, by computing.
use Rattle.std.proofs.Common.{◌≡◌, ℕ, ◌+◌, ◌-◌, ◌%◌, ◌<◌, Bool, true, false, cond, not, eqb, nat_eq, min, bit_and, bit_or, get_or, List, Option, Some, None, refl, ap}
use Rattle.std.proofs.lemmas.Bool.{agree_below, agree_below_at, eqb-true, false≢true}
use Rattle.own_model.specs.Text.{hex_digit_of}
use Rattle.hex.specs.Hex.{is_hex_digit}

-- the table has this flag at a byte
abbrev pub has_kind : List ℕ → ℕ → ℕ → Bool
has_kind table flag b = not (nat_eq (bit_and (get_or table b 0) flag) 0)

-- where they agree at each byte, the table tells the test
pub kind_is : (table : List ℕ) (flag : ℕ) (test : ℕ → Bool) (b : ℕ) → b < 256 → agree_below (has_kind table flag) test 256 ≡ true → has_kind table flag b ≡ test b
kind_is table flag test b within agree = agree_below_at (has_kind table flag) test 256 b agree within

-- how far a byte is past the nearer of the last digit and the last letter, in numbers that wrap
abbrev pub past : ℕ → ℕ
past b = min ((b + 208) % 256 - 9) ((bit_or b 32 + 159) % 256 - 5)

-- those past neither are the digits
pub digits_past_none : (b : ℕ) → b < 256 → nat_eq (past b) 0 ≡ is_hex_digit b
digits_past_none b within = agree_below_at (λ b. nat_eq (past b) 0) is_hex_digit 256 b refl within

-- whether two options are the same
abbrev same : Option ℕ → Option ℕ → Bool
same None None = true
same None (Some m) = false
same (Some n) None = false
same (Some n) (Some m) = eqb n m

same_is : (o p : Option ℕ) → same o p ≡ true → o ≡ p
same_is None None e = refl
same_is None (Some m) e = absurd (false≢true e)
same_is (Some n) None e = absurd (false≢true e)
same_is (Some n) (Some m) e = ap (λ k. Some k) (eqb-true n m e)

-- what a sign says: a digit's value, or that it is none
abbrev pub value_told : ℕ → Option ℕ
value_told sign = cond (nat_eq sign 64) None (Some (bit_and sign 15))

-- where a table's signs agree with the digits at each byte, they tell the values
pub value_is : (table : List ℕ) (b : ℕ) → b < 256 → agree_below (λ k. same (value_told (get_or table k 0)) (hex_digit_of k)) (λ _. true) 256 ≡ true →
    value_told (get_or table b 0) ≡ hex_digit_of b
value_is table b within agree = same_is _ _ (agree_below_at (λ k. same (value_told (get_or table k 0)) (hex_digit_of k)) (λ _. true) 256 b agree within)
