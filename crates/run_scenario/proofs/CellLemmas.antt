-- The text of cells, and of a text in quotes.
use Rattle.std.proofs.Common.{◌≡◌, ℕ, suc, ◌+◌, ◌^◌, ◌<◌, ◌==◌, ◌||◌, Bool, true, false, cond, if◌then◌else◌, List, [], ◌∷◌, ◌++◌, length, take, drop, get_or, arith, refl, sym, ◌∙◌, ap, append_assoc, append-nil}
use Rattle.std.specs.Prelude.{decimal}
use Rattle.std.specs.Char.{is_ascii_digit}
use Rattle.std.specs.List.{list_any}
use Rattle.std.specs.Str.{all_ascii_digits}
use Rattle.std.proofs.Math.Seq.{take-suc}
use Rattle.std.proofs.lemmas.Bool.Decides.{nat_tests}
use Rattle.std.proofs.lemmas.Fmt.{digits_decimal}
use Rattle.std.proofs.lemmas.List.{take-append-drop}
use Rattle.std.proofs.lemmas.Str.Parse.{numerals_by_value, tells_all_ascii_digits}
use Rattle.std.proofs.lemmas.Bool.{and_parts}
use Rattle.csv.specs.Writing.{default_writer, escaped, field_text, fields_text, needs_byte, needs_quotes, quoted}
use Rattle.run_scenario.specs.Cells.{cell_text}

-- ---- a number

digit_plain : (b : ℕ) → is_ascii_digit b ≡ true → needs_byte default_writer b ≡ false
digit_plain b digit = grind (arith, nat_tests)

digits_plain : (ds : List ℕ) → all_ascii_digits ds ≡ true → list_any (needs_byte default_writer) ds ≡ false
digits_plain [] digits = refl
digits_plain (b ∷ bs) digits = let parts = and_parts _ _ digits in λ i. digit_plain b parts.0 i || digits_plain bs parts.1 i

-- a number needs no quotes
pub plain_number : (n : ℕ) → n < 2 ^ 64 → field_text default_writer (decimal n) ≡ decimal n
plain_number n small =
    ap (λ (q : Bool). cond q (quoted default_writer (decimal n)) (decimal n))
    (digits_plain (decimal n) (digits_decimal (numerals_by_value _ tells_all_ascii_digits) n small))

pub plain_cell : (old : List ℕ) (n : ℕ) → n < 2 ^ 64 → (old ++ 44 ∷ []) ++ decimal n ≡ old ++ cell_text (decimal n)
plain_cell old n small = append_assoc old (44 ∷ []) (decimal n) ∙ ap (λ text. old ++ 44 ∷ text) (sym (plain_number n small))

pub ruleset plain_numbers = (plain_cell)

-- ---- cells

-- a cell, and then others
pub cell_then : (old x : List ℕ) (xs : List (List ℕ)) → old ++ fields_text default_writer (x ∷ xs) ≡ (old ++ cell_text x) ++ fields_text default_writer xs
unfolding fields_text
cell_then old x xs = sym (append_assoc old (cell_text x) (fields_text default_writer xs))

none_then : (old : List ℕ) → old ++ fields_text default_writer [] ≡ old
unfolding fields_text
none_then old = append-nil old

four_then : (old a b c d : List ℕ) (xs : List (List ℕ)) → old ++ fields_text default_writer (a ∷ b ∷ c ∷ d ∷ xs)
    ≡ ((((old ++ cell_text a) ++ cell_text b) ++ cell_text c) ++ cell_text d) ++ fields_text default_writer xs
four_then old a b c d xs =
    cell_then old a (b ∷ c ∷ d ∷ xs) ∙ cell_then (old ++ cell_text a) b (c ∷ d ∷ xs)
    ∙ cell_then ((old ++ cell_text a) ++ cell_text b) c (d ∷ xs) ∙ cell_then (((old ++ cell_text a) ++ cell_text b) ++ cell_text c) d xs

pub four_alone : (old a b c d : List ℕ) → (((old ++ cell_text a) ++ cell_text b) ++ cell_text c) ++ cell_text d ≡ old ++ fields_text default_writer (a ∷ b ∷ c ∷ d ∷ [])
four_alone old a b c d = sym (four_then old a b c d [] ∙ none_then _)

pub ruleset four_cells = (four_alone)

-- cells behind cells
pub cells_more : (xs ys : List (List ℕ)) → fields_text default_writer (xs ++ ys) ≡ fields_text default_writer xs ++ fields_text default_writer ys
unfolding fields_text
cells_more [] ys = refl
cells_more (x ∷ xs) ys =
    ap (λ text. cell_text x ++ text) (cells_more xs ys) ∙ sym (append_assoc (cell_text x) (fields_text default_writer xs) (fields_text default_writer ys))

-- one cell behind cells
pub last_cell : (xs : List (List ℕ)) (x : List ℕ) → fields_text default_writer xs ++ cell_text x ≡ fields_text default_writer (xs ++ x ∷ [])
last_cell xs x = sym (cells_more xs (x ∷ []) ∙ cell_then (fields_text default_writer xs) x [] ∙ none_then (fields_text default_writer xs ++ cell_text x))

-- ---- a text in quotes

byte_escaped : (b : ℕ) → escaped default_writer (b ∷ []) ≡ (if b == 34 then 34 ∷ b ∷ [] else b ∷ [])
unfolding escaped
byte_escaped b = refl

escaped-cons : (b : ℕ) (bs : List ℕ) → escaped default_writer (b ∷ bs) ≡ escaped default_writer (b ∷ []) ++ escaped default_writer bs
unfolding escaped
escaped-cons b bs = of (b == 34)
  where
    of : (q : Bool) → (if q then 34 ∷ b ∷ escaped default_writer bs else b ∷ escaped default_writer bs) ≡ (if q then 34 ∷ b ∷ [] else b ∷ []) ++ escaped default_writer bs
    of true = refl
    of false = refl

escaped-none : (ys : List ℕ) → escaped default_writer ys ≡ escaped default_writer [] ++ escaped default_writer ys
unfolding escaped
escaped-none ys = refl

pub escaped-append : (xs ys : List ℕ) → escaped default_writer (xs ++ ys) ≡ escaped default_writer xs ++ escaped default_writer ys
escaped-append [] ys = escaped-none ys
escaped-append (b ∷ bs) ys =
    escaped-cons b (bs ++ ys) ∙ ap (λ text. escaped default_writer (b ∷ []) ++ text) (escaped-append bs ys)
    ∙ sym (append_assoc (escaped default_writer (b ∷ [])) (escaped default_writer bs) (escaped default_writer ys))
    ∙ ap (λ text. text ++ escaped default_writer ys) (sym (escaped-cons b bs))

pub escaped_nothing : [] ≡ escaped default_writer []
unfolding escaped
escaped_nothing = refl

-- one byte more
pub escaped_more : (text : List ℕ) (k : ℕ) → k < length text → escaped default_writer (take (k + 1) text) ≡ escaped default_writer (take k text) ++ escaped default_writer (get_or text k 0 ∷ [])
escaped_more text k within =
    let next : k + 1 ≡ suc k = omega arith in
    ap (λ n. escaped default_writer (take n text)) next ∙ ap (escaped default_writer) (take-suc text k 0 within) ∙ escaped-append (take k text) (get_or text k 0 ∷ [])

pub escaped_cut : (text : List ℕ) (k : ℕ) → k < length text →
    escaped default_writer text ≡ (escaped default_writer (take k text) ++ escaped default_writer (get_or text k 0 ∷ [])) ++ escaped default_writer (drop (k + 1) text)
escaped_cut text k within =
    ap (escaped default_writer) (sym (take-append-drop (k + 1) text)) ∙ escaped-append (take (k + 1) text) (drop (k + 1) text)
    ∙ ap (λ front. front ++ escaped default_writer (drop (k + 1) text)) (escaped_more text k within)

-- a cell is a text in quotes where it needs them
pub quoted_cell : (text : List ℕ) → needs_quotes default_writer text ≡ true → 44 ∷ quoted default_writer text ≡ cell_text text
quoted_cell text needs = ap (λ (q : Bool). 44 ∷ cond q (quoted default_writer text) text) (sym needs)

pub unquoted_cell : (text : List ℕ) → needs_quotes default_writer text ≡ false → 44 ∷ text ≡ cell_text text
unquoted_cell text needs = ap (λ (q : Bool). 44 ∷ cond q (quoted default_writer text) text) (sym needs)
