-- The digits of a number are counted, and written where they stand.
use Rattle.std.proofs.Common.{◌≡◌, ℕ, ◌+◌, ◌/◌, ◌^◌, ◌<◌, ◌≤◌, List, ◌++◌, length, take, drop, sym, ap, ◌∙◌, arith, length-append, append_assoc}
use Rattle.std.proofs.lemmas.Fmt.{decimal_digit, decimal_step}
use Rattle.std.proofs.lemmas.List.{take-append-drop, length-take-le}
use Rattle.std.proofs.Math.Seq.{take-append_seam}
use Rattle.std.specs.Fmt.{decimal}

-- a number below ten has one digit
pub one_digit : (n : ℕ) → n < 10 → length (decimal n) ≡ 1
one_digit n small = ap length (decimal_digit n small)

-- any other has one more than its tenth
pub digit_more : (n : ℕ) → 10 ≤ n → n < 2 ^ 64 → length (decimal n) ≡ length (decimal (n / 10)) + 1
digit_more n large fits = ap length (decimal_step n large fits) ∙ length-append _ _

-- and four more than its ten thousandth
pub four_digits_more : (n : ℕ) → 10000 ≤ n → n < 2 ^ 64 → length (decimal n) ≡ length (decimal (n / 10000)) + 4
four_digits_more n large fits =
    let same : n / 10 / 10 / 10 / 10 ≡ n / 10000 = omega arith in
    rw (← same)
    (omega (arith, digit_more n (omega arith) fits, digit_more (n / 10) (omega arith) (omega arith), digit_more (n / 10 / 10) (omega arith) (omega arith), digit_more (n / 10 / 10 / 10) (omega arith) (omega arith)))

pub two_digits : (n : ℕ) → 10 ≤ n → n < 100 → length (decimal n) ≡ 2
two_digits n large small = omega (arith, digit_more n large (omega arith), one_digit (n / 10) (omega arith))

pub three_digits : (n : ℕ) → 100 ≤ n → n < 1000 → length (decimal n) ≡ 3
three_digits n large small = omega (arith, digit_more n (omega arith) (omega arith), two_digits (n / 10) (omega arith) (omega arith))

pub four_digits : (n : ℕ) → 1000 ≤ n → n < 10000 → length (decimal n) ≡ 4
four_digits n large small = omega (arith, digit_more n (omega arith) (omega arith), three_digits (n / 10) (omega arith) (omega arith))

pub five_digits : (n : ℕ) → 10000 ≤ n → n < 100000 → length (decimal n) ≡ 5
five_digits n large small = omega (arith, digit_more n (omega arith) (omega arith), four_digits (n / 10) (omega arith) (omega arith))

-- what is written from a place on, with what stood before, is all up to its end
pub written_from : (old new digits : List ℕ) (at start end : ℕ) → start + length digits ≡ end → end ≡ at + length digits → end ≤ length old →
    take start new ≡ take start old → drop start new ≡ digits ++ drop end old → take end new ≡ take at old ++ digits
written_from old new digits at start end starts ends within before written =
    let front = take start old ++ digits in
    let len : length front ≡ end = omega (arith, length-append (take start old) digits, length-take-le start old (omega (arith, starts, within))) in
    let all : new ≡ front ++ drop end old =
    sym (take-append-drop start new) ∙ ap (λ xs. xs ++ drop start new) before ∙ ap (λ xs. take start old ++ xs) written ∙ sym (append_assoc (take start old) digits (drop end old)) in
    ap (take end) all ∙ ap (λ n. take n (front ++ drop end old)) (sym len) ∙ take-append_seam front (drop end old) ∙ ap (λ n. take n old ++ digits) (omega (arith, starts, ends))
