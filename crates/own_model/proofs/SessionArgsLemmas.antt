-- The canonical writing of session arguments is read again.
use Rattle.std.proofs.Common.{◌≡◌, ℕ, zero, suc, ◌+◌, ◌-◌, ◌^◌, ◌<◌, ◌&&◌, ◌||◌, not, Bool, true, false, cond, List, [], ◌∷◌, ◌++◌, length, get_or, Option, Some, None, refl, ap, ◌∙◌, arith, codes, append_assoc}
use Rattle.std.specs.Prelude.{nat_eq, nat_lt, nat_le, reverse, decimal}
use Rattle.std.specs.List.{list_all, before_first, after_first}
use Rattle.std.proofs.Math.Bool.{and-false}
use Rattle.std.specs.Char.{is_ascii_digit}
use Rattle.std.specs.Str.{all_ascii_digits}
use Rattle.std.specs.Str.Parse.{digits_value}
use Rattle.std.specs.Option.{option_map, option_and_then}
use Rattle.std.proofs.lemmas.Bool.Decides.{nat_tests}
use Rattle.std.proofs.lemmas.Fmt.{decimal_nonempty, digits_decimal, digits_value-decimal}
use Rattle.std.proofs.lemmas.Str.Parse.{numerals_by_value, tells_all_ascii_digits}
use Rattle.std.proofs.lemmas.List.{length-append, reverse-append, reverse-reverse, take_at, get_or-append-add}
use Rattle.std.proofs.lemmas.List.Folds.{list_all-append}
use Rattle.std.proofs.lemmas.Bool.{and_parts}
use Rattle.trade_base.specs.Amount.{number_of, unit_of, amount_of}
use Rattle.own_model.specs.Text.{is_name_byte}
use Rattle.own_model.specs.SessionArgs.{is_equals, is_quotable, onto_first, pieces_of, skip_spaces, trimmed, Pair, is_key, inner, value_of, pair_of, each, Arguments, arguments_in, arguments_of, arguments_text, HasText}
use Rattle.own_model.specs.SessionArgs.Value.{Bare, Quoted}

-- ---- tests

-- each of three that fail
pub none_of_three : (x y z : Bool) → (not x && (not y && not z)) ≡ true → (x ≡ false) × (y ≡ false) × (z ≡ false)
none_of_three false false false e = (refl, refl, refl)
none_of_three true y z e = absurd (cc)
none_of_three false true z e = absurd (cc)
none_of_three false false true e = absurd (cc)

-- the first of two that fail
not_first : (x y : Bool) → not (x || y) ≡ true → x ≡ false
not_first false y e = refl
not_first true y e = absurd (cc)

-- what doesn't begin with a quote isn't quoted
pub not_quoted : (x y z t : Bool) → y ≡ false → ((x && (y && z)) && t) ≡ false
not_quoted true y z t e = ap (λ b. (b && z) && t) e
not_quoted false y z t e = refl

-- ---- bytes

-- neither a space, a quote nor a comma
abbrev pub is_plain : ℕ → Bool
is_plain b = not (nat_eq b 32) && (not (nat_eq b 34) && not (nat_eq b 44))

-- a digit is plain, may stand in a name, and is no suffix of an amount
digit_plain : (b : ℕ) → is_ascii_digit b ≡ true → is_plain b ≡ true
digit_plain b digit = grind (arith, nat_tests)

digit_named : (b : ℕ) → is_ascii_digit b ≡ true → is_name_byte b ≡ true
digit_named b digit = grind (arith, nat_tests)

digit_no_unit : (b : ℕ) → is_ascii_digit b ≡ true → unit_of b ≡ None
digit_no_unit b digit = grind (arith, nat_tests)

-- what holds of digits holds of all bytes of a number
of_digits : (p : ℕ → Bool) → ((b : ℕ) → is_ascii_digit b ≡ true → p b ≡ true) → (ds : List ℕ) → all_ascii_digits ds ≡ true → list_all p ds ≡ true
of_digits p each [] digits = refl
of_digits p each (b ∷ bs) digits = let parts = and_parts _ _ digits in λ i. each b parts.0 i && of_digits p each bs parts.1 i

-- each of digits is one
digit_at : (ds : List ℕ) (i : ℕ) → i < length ds → all_ascii_digits ds ≡ true → is_ascii_digit (get_or ds i 0) ≡ true
digit_at [] i within digits = absurd (omega arith)
digit_at (b ∷ bs) zero within digits = (and_parts _ _ digits).0
digit_at (b ∷ bs) (suc i) within digits = digit_at bs i (omega arith) (and_parts _ _ digits).1

-- ---- pieces

-- a text without quotes up to a comma is a piece
pub pieces-plain : (xs rest : List ℕ) → list_all is_plain xs ≡ true → pieces_of false (xs ++ 44 ∷ rest) ≡ xs ∷ pieces_of false rest
pieces-plain [] rest plain = refl
pieces-plain (b ∷ bs) rest plain =
    let parts = and_parts _ _ plain in
    let tests = none_of_three _ _ _ parts.0 in
    (λ i. cond (tests.2 i && true) ([] ∷ pieces_of false (bs ++ 44 ∷ rest)) (onto_first b (pieces_of (cond (tests.1 i) true false) (bs ++ 44 ∷ rest))))
    ∙ ap (onto_first b) (pieces-plain bs rest parts.1)

-- what is quoted to the end of a text is one
pub pieces-quoted : (label : List ℕ) → list_all is_quotable label ≡ true → pieces_of true (label ++ 34 ∷ []) ≡ (label ++ 34 ∷ []) ∷ []
pieces-quoted [] quotable = refl
pieces-quoted (b ∷ bs) quotable =
    let parts = and_parts _ _ quotable in
    let quote : nat_eq b 34 ≡ false = not_first _ _ (and_parts _ _ parts.0).1 in
    (λ i. cond (and-false (nat_eq b 44) i) ([] ∷ pieces_of true (bs ++ 34 ∷ [])) (onto_first b (pieces_of (cond (quote i) false true) (bs ++ 34 ∷ []))))
    ∙ ap (onto_first b) (pieces-quoted bs parts.1)

-- bytes in front of a first piece
abbrev pub onto : List ℕ → List (List ℕ) → List (List ℕ)
onto [] pieces = pieces
onto (b ∷ bs) pieces = onto_first b (onto bs pieces)

-- ---- trimming

-- bytes without a space have none to skip
skip-plain : (xs : List ℕ) → list_all is_plain xs ≡ true → skip_spaces xs ≡ xs
skip-plain [] plain = refl
skip-plain (b ∷ bs) plain = ap (λ t. cond t (skip_spaces bs) (b ∷ bs)) (none_of_three _ _ _ (and_parts _ _ plain).0).0

-- nor have they backwards
list_all-reverse : (p : ℕ → Bool) (xs : List ℕ) → list_all p xs ≡ true → list_all p (reverse xs) ≡ true
list_all-reverse p [] all = refl
list_all-reverse p (x ∷ xs) all =
    let parts = and_parts _ _ all in
    ap (list_all p) (reverse-append (x ∷ []) xs) ∙ list_all-append p (reverse xs) (x ∷ []) ∙ (λ i. list_all-reverse p xs parts.1 i && (parts.0 i && true))

-- so nothing is trimmed
pub trimmed-plain : (xs : List ℕ) → list_all is_plain xs ≡ true → trimmed xs ≡ xs
trimmed-plain xs plain = grind (arith, nat_tests, skip-plain, list_all-reverse, reverse-reverse)

-- nothing is trimmed after a quote
pub trimmed-quote : (front : List ℕ) → reverse (skip_spaces (reverse (front ++ 34 ∷ []))) ≡ front ++ 34 ∷ []
trimmed-quote front = grind (arith, nat_tests, reverse-append, reverse-reverse)

-- ---- values

-- digits are a value as they stand
value-digits : (ds : List ℕ) → 0 < length ds → all_ascii_digits ds ≡ true → value_of ds ≡ Some (Bare ds)
value-digits [] some digits = absurd (omega arith)
value-digits (b ∷ bs) some digits = grind (arith, nat_tests, of_digits, digit_named, none_of_three, digit_plain, and_parts, not_quoted)

-- what stands between quotes
inner-quoted : (label : List ℕ) → inner (34 ∷ (label ++ 34 ∷ [])) ≡ label
inner-quoted label = grind (arith, nat_tests, length-append, take_at)

last-quoted : (label : List ℕ) → get_or (34 ∷ (label ++ 34 ∷ [])) (length (34 ∷ (label ++ 34 ∷ [])) - 1) 0 ≡ 34
last-quoted label =
    let place : length (34 ∷ (label ++ 34 ∷ [])) - 1 ≡ suc (length label + 0) = omega (arith, length-append label (34 ∷ [])) in
    ap (λ n. get_or (34 ∷ (label ++ 34 ∷ [])) n 0) place ∙ get_or-append-add label (34 ∷ []) 0 0

-- a label is a value within quotes
pub value-quoted : (label : List ℕ) → list_all is_quotable label ≡ true → value_of (34 ∷ (label ++ 34 ∷ [])) ≡ Some (Quoted label)
value-quoted label quotable = grind (arith, nat_tests, length-append, inner-quoted, last-quoted)

-- ---- numbers

module _ (n : ℕ) (small : n < 2 ^ 64) where
  -- a number's text is its digits
  digits : all_ascii_digits (decimal n) ≡ true
  digits = digits_decimal (numerals_by_value _ tells_all_ascii_digits) n small

  -- it is read again, as a number
  number_of-decimal : number_of (decimal n) ≡ Some n
  number_of-decimal =
      let some : nat_lt 0 (length (decimal n)) ≡ true = grind (arith, nat_tests, decimal_nonempty n small) in
      let value : digits_value 10 (decimal n) ≡ n = digits_value-decimal (numerals_by_value _ tells_all_ascii_digits) n small in
      let test : nat_lt n (2 ^ 64) ≡ true = grind (arith, nat_tests) in
      (λ i. cond ((some i && digits i) && nat_lt (value i) (2 ^ 64)) (Some (value i)) None) ∙ ap (λ t. cond t (Some n) None) test

  -- and as an amount
  amount_of-decimal : amount_of (decimal n) ≡ Some n
  amount_of-decimal = grind (arith, nat_tests, decimal_nonempty, digit_no_unit, digit_at, digits, number_of-decimal)

  -- its digits are plain, and a value
  plain : list_all is_plain (decimal n) ≡ true
  plain = of_digits is_plain digit_plain (decimal n) digits

  value : value_of (decimal n) ≡ Some (Bare (decimal n))
  value = value-digits (decimal n) (decimal_nonempty n small) digits

-- ---- pairs

-- the pair of a text that was trimmed
abbrev pub pair_in : List ℕ → Option Pair
pair_in text =
    cond (is_key (before_first is_equals text))
    (option_map (λ value. record { key = before_first is_equals text; value = value }) (value_of (after_first is_equals text))) None

-- what three answer, if all do
abbrev three : Option Pair → Option Pair → Option Pair → Option (List Pair)
three a b c =
    option_and_then (λ x. option_map (λ xs. x ∷ xs) (option_and_then (λ y. option_map (λ ys. y ∷ ys) (option_and_then (λ z. option_map (λ zs. z ∷ zs) (Some [])) c)) b)) a

-- arguments of three parts, if there are all three
abbrev pub made : Option ℕ → Option ℕ → Option (List ℕ) → Option Arguments
made r c l = option_and_then (λ ram. option_and_then (λ caps. option_map (λ label. record { ram = ram; caps = caps; label = label }) l) c) r

-- the canonical writing of arguments gives them back
pub arguments_of-text : (a : Arguments) → HasText a → arguments_of (arguments_text a) ≡ Some a
arguments_of-text a has =
    let caps_small : a.caps < 2 ^ 64 = omega (arith, has.caps) in
    let short : nat_le (length a.label) 64 ≡ true = grind (arith, nat_tests, has.short) in
    let few : nat_lt a.caps (2 ^ 32) ≡ true = grind (arith, nat_tests, has.caps) in
    let ram_text = codes "ram_quota=" ++ decimal a.ram in
    let caps_text = codes " cap_quota=" ++ decimal a.caps in
    let label_text = codes " label=\"" ++ (a.label ++ 34 ∷ []) in
    let regrouped : arguments_text a ≡ ram_text ++ 44 ∷ (caps_text ++ 44 ∷ label_text) = simp append_assoc in
    let pieces : pieces_of false (ram_text ++ 44 ∷ (caps_text ++ 44 ∷ label_text)) ≡ ram_text ∷ caps_text ∷ label_text ∷ [] =
    pieces-plain ram_text (caps_text ++ 44 ∷ label_text) (plain a.ram has.ram)
    ∙ ap (λ ps. ram_text ∷ ps) (ap (onto_first 32) (pieces-plain (codes "cap_quota=" ++ decimal a.caps) label_text (plain a.caps caps_small)) ∙ ap (λ ps. caps_text ∷ ps) (ap (onto (codes " label=\"")) (pieces-quoted a.label has.label))) in
    let first : pair_of ram_text ≡ Some (record { key = codes "ram_quota"; value = Bare (decimal a.ram) }) =
    ap pair_in (trimmed-plain ram_text (plain a.ram has.ram)) ∙ ap (option_map (λ v. record { key = codes "ram_quota"; value = v })) (value a.ram has.ram) in
    let second : pair_of caps_text ≡ Some (record { key = codes "cap_quota"; value = Bare (decimal a.caps) }) =
    ap pair_in (trimmed-plain (codes "cap_quota=" ++ decimal a.caps) (plain a.caps caps_small)) ∙ ap (option_map (λ v. record { key = codes "cap_quota"; value = v })) (value a.caps caps_small) in
    let third : pair_of label_text ≡ Some (record { key = codes "label"; value = Quoted a.label }) =
    ap pair_in (trimmed-quote (codes "label=\"" ++ a.label)) ∙ ap (option_map (λ v. record { key = codes "label"; value = v })) (value-quoted a.label has.label) in
    ap arguments_of regrouped
    ∙ ap (λ ps. option_and_then arguments_in (each pair_of ps)) pieces
    ∙ (λ i. option_and_then arguments_in (three (first i) (second i) (third i)))
    ∙ (λ i. made (amount_of-decimal a.ram has.ram i) (option_and_then (λ n. cond (nat_lt n (2 ^ 32)) (Some n) None) (number_of-decimal a.caps caps_small i)) (cond (short i) (Some a.label) None))
    ∙ ap (λ t. made (Some a.ram) (cond t (Some a.caps) None) (Some a.label)) few
