-- The bytes that digits stand for, one after another.
use Rattle.std.proofs.Common.{◌≡◌, ℕ, ◌+◌, ◌*◌, ◌/◌, ◌<◌, ◌&&◌, ◌||◌, Bool, true, false, cond, List, [], ◌∷◌, ◌++◌, length, take, drop, get_or, arith, refl, sym, ◌∙◌, ap, append-nil, suc, Option, Some, None, Ok}
use Rattle.std.specs.Prelude.{nat_lt}
use Rattle.std.specs.List.{list_all}
use Rattle.std.specs.Option.{option_map, unwrap_or}
use Rattle.std.proofs.Math.Seq.{take-suc}
use Rattle.std.proofs.lemmas.List.{at_drop_more, length-drop, length-take-le, take-append-drop}
use Rattle.hex.specs.Hex.{decode_sized}
use Rattle.hex.proofs.HexLemmas.{decode_sized-twice}
use Rattle.text_codec.proofs.HexLemmas.{bytes_within, decoded_bytes}
use Rattle.std.proofs.lemmas.List.Concat.{flat_map-append}
use Rattle.std.proofs.lemmas.List.Folds.{list_any-append}
use Rattle.csv.specs.Writing.{default_writer, needs_byte, needs_quotes}
use Rattle.own_model.specs.Call.{some_bytes_of_hex}
use Rattle.own_model.specs.Text.{bytes_of_hex, hex_bytes}
use Rattle.own_model.proofs.LogLemmas.{bytes_of_digits}
use Rattle.run_scenario.specs.Complaints.{shown_bytes}
use Rattle.run_scenario.specs.Texts.{is_shown, shown_text, character_text, characters_text, written_in}
use Rattle.run_scenario.proofs.CellLemmas.{escaped-append, escaped_nothing}

-- ---- digits and their bytes

-- bytes are half as many as their digits
pub bytes_counted : (hex : List ℕ) → bytes_of_hex hex ≡ Some (hex_bytes hex) → length (hex_bytes hex) ≡ length hex / 2
bytes_counted hex formed = let twice = bytes_of_digits hex (hex_bytes hex) formed in omega (arith, twice)

-- two digits are decoded to the byte at their place
pub pair_decoded : (digits : List ℕ) (place : ℕ) → bytes_of_hex digits ≡ Some (hex_bytes digits) → place < length digits / 2 →
    decode_sized (take 2 (drop (2 * place) digits)) 1 ≡ Ok (take 1 (drop place (hex_bytes digits)))
pair_decoded digits place formed within =
    let two : length (take 2 (drop (2 * place) digits)) ≡ 2 * 1 = length-take-le 2 (drop (2 * place) digits) (omega (arith, length-drop (2 * place) digits)) in
    decode_sized-twice (take 2 (drop (2 * place) digits)) 1 two
    ∙ bytes_within place 1 digits (hex_bytes digits) (decoded_bytes digits (hex_bytes digits) formed)

-- what a test lets through
let_through : (t : Bool) (o : Option (List ℕ)) (bytes : List ℕ) → Some bytes ≡ cond t o None → o ≡ Some bytes
let_through true o bytes is = sym is
let_through false o bytes is = absurd (cc)

some_shown : (bytes : List ℕ) (n : ℕ) → length bytes * 2 ≡ n + 1 → list_all is_shown bytes ≡ true → shown_text bytes ≡ Some (characters_text bytes)
some_shown [] n count all = absurd (omega (arith, count))
some_shown (b ∷ bytes) n count all = ap (λ (t : Bool). cond t (Some (characters_text (b ∷ bytes))) None) all

-- the text of bytes that can be shown, by their digits
pub shown_found : (text hex : List ℕ) → Some (hex_bytes hex) ≡ some_bytes_of_hex text → list_all is_shown (hex_bytes hex) ≡ true → Some (characters_text (hex_bytes hex)) ≡ shown_text (hex_bytes text)
shown_found [] hex is all = absurd (cc)
shown_found (b ∷ bs) hex is all =
    let some : bytes_of_hex (b ∷ bs) ≡ Some (hex_bytes hex) = let_through (nat_lt 0 (length (b ∷ bs))) (bytes_of_hex (b ∷ bs)) (hex_bytes hex) is in
    let count = bytes_of_digits (b ∷ bs) (hex_bytes hex) some in
    sym (ap (λ (o : Option (List ℕ)). shown_text (unwrap_or o [])) some ∙ some_shown (hex_bytes hex) (length bs) (omega (arith, count)) all)

some_not : (bytes : List ℕ) → list_all is_shown bytes ≡ false → None ≡ shown_text bytes
some_not [] all = refl
some_not (b ∷ bytes) all = ap (λ (t : Bool). cond t (Some (characters_text (b ∷ bytes))) None) (sym all)

-- and nothing of bytes that can't
pub shown_missing : (text hex : List ℕ) → Some (hex_bytes hex) ≡ some_bytes_of_hex text → list_all is_shown (hex_bytes hex) ≡ false → None ≡ shown_text (hex_bytes text)
shown_missing [] hex is all = refl
shown_missing (b ∷ bs) hex is all =
    let some : bytes_of_hex (b ∷ bs) ≡ Some (hex_bytes hex) = let_through (nat_lt 0 (length (b ∷ bs))) (bytes_of_hex (b ∷ bs)) (hex_bytes hex) is in
    some_not (hex_bytes hex) all ∙ sym (ap (λ (o : Option (List ℕ)). shown_text (unwrap_or o [])) some)

-- the same of the bytes themselves
pub bytes_found : (text hex : List ℕ) → Some (hex_bytes hex) ≡ some_bytes_of_hex text → list_all is_shown (hex_bytes hex) ≡ true → Some (hex_bytes hex) ≡ shown_bytes (hex_bytes text)
bytes_found [] hex is all = absurd (cc)
bytes_found (b ∷ bs) hex is all =
    let some : bytes_of_hex (b ∷ bs) ≡ Some (hex_bytes hex) = let_through (nat_lt 0 (length (b ∷ bs))) (bytes_of_hex (b ∷ bs)) (hex_bytes hex) is in
    let count = bytes_of_digits (b ∷ bs) (hex_bytes hex) some in
    sym (ap (λ (o : Option (List ℕ)). shown_bytes (unwrap_or o [])) some
    ∙ ap (λ (o : Option (List ℕ)). option_map (λ text. hex_bytes hex) o) (some_shown (hex_bytes hex) (length bs) (omega (arith, count)) all))

pub bytes_missing : (text hex : List ℕ) → Some (hex_bytes hex) ≡ some_bytes_of_hex text → list_all is_shown (hex_bytes hex) ≡ false → None ≡ shown_bytes (hex_bytes text)
bytes_missing text hex is all = ap (λ (o : Option (List ℕ)). option_map (λ it. hex_bytes text) o) (shown_missing text hex is all)

-- ---- byte by byte

-- the byte at a place is the first from there on
pub byte_there : (bytes : List ℕ) (i : ℕ) → i < length bytes → get_or (take 1 (drop i bytes)) 0 0 ≡ get_or bytes i 0
byte_there bytes i within = at_drop_more (λ (xs : List ℕ). get_or (take 1 xs) 0 0) bytes i 0 within

module _ (bytes : List ℕ) (i byte : ℕ) (within : i < length bytes) (is : byte ≡ get_or bytes i 0) where
  shown_from : list_all is_shown (drop i bytes) ≡ (is_shown byte && list_all is_shown (drop (i + 1) bytes))
  shown_from = at_drop_more (list_all is_shown) bytes i 0 within ∙ ap (λ b. is_shown b && list_all is_shown (drop (i + 1) bytes)) (sym is)

  quotes_from : needs_quotes default_writer (characters_text (drop i bytes)) ≡ (needs_quotes default_writer (character_text byte) || needs_quotes default_writer (characters_text (drop (i + 1) bytes)))
  quotes_from =
      at_drop_more (λ xs. needs_quotes default_writer (characters_text xs)) bytes i 0 within
      ∙ list_any-append (needs_byte default_writer) (character_text (get_or bytes i 0)) (characters_text (drop (i + 1) bytes))
      ∙ ap (λ b. needs_quotes default_writer (character_text b) || needs_quotes default_writer (characters_text (drop (i + 1) bytes))) (sym is)

  -- one that can be shown leaves the question to the others, and one that can't answers it
  pub shown_on : is_shown byte ≡ true → list_all is_shown (drop i bytes) ≡ list_all is_shown bytes → list_all is_shown (drop (i + 1) bytes) ≡ list_all is_shown bytes
  shown_on shown so_far = ap (λ t. t && list_all is_shown (drop (i + 1) bytes)) (sym shown) ∙ sym shown_from ∙ so_far

  pub shown_not : is_shown byte ≡ false → list_all is_shown (drop i bytes) ≡ list_all is_shown bytes → false ≡ list_all is_shown bytes
  shown_not shown so_far = ap (λ t. t && list_all is_shown (drop (i + 1) bytes)) (sym shown) ∙ sym shown_from ∙ so_far

  -- and so of quotes
  pub quotes_on : needs_quotes default_writer (character_text byte) ≡ false → needs_quotes default_writer (characters_text (drop i bytes)) ≡ needs_quotes default_writer (characters_text bytes) →
      needs_quotes default_writer (characters_text (drop (i + 1) bytes)) ≡ needs_quotes default_writer (characters_text bytes)
  quotes_on needs so_far = ap (λ t. t || needs_quotes default_writer (characters_text (drop (i + 1) bytes))) (sym needs) ∙ sym quotes_from ∙ so_far

  pub quotes_there : needs_quotes default_writer (character_text byte) ≡ true → needs_quotes default_writer (characters_text (drop i bytes)) ≡ needs_quotes default_writer (characters_text bytes) →
      true ≡ needs_quotes default_writer (characters_text bytes)
  quotes_there needs so_far = ap (λ t. t || needs_quotes default_writer (characters_text (drop (i + 1) bytes))) (sym needs) ∙ sym quotes_from ∙ so_far

-- ---- as they are written

pub written_nothing : (in_cell : Bool) → [] ≡ written_in in_cell []
written_nothing true = escaped_nothing
written_nothing false = refl

written-append : (in_cell : Bool) (xs ys : List ℕ) → written_in in_cell (xs ++ ys) ≡ written_in in_cell xs ++ written_in in_cell ys
written-append true xs ys = escaped-append xs ys
written-append false xs ys = refl

module _ (in_cell : Bool) (bytes : List ℕ) where
  written_both : (xs ys : List ℕ) → written_in in_cell (characters_text (xs ++ ys)) ≡ written_in in_cell (characters_text xs) ++ written_in in_cell (characters_text ys)
  written_both xs ys = ap (written_in in_cell) (flat_map-append character_text xs ys) ∙ written-append in_cell (characters_text xs) (characters_text ys)

  module _ (i byte : ℕ) (within : i < length bytes) (is : byte ≡ get_or bytes i 0) where
    -- one byte more
    pub signs_more : written_in in_cell (characters_text (take (i + 1) bytes)) ≡ written_in in_cell (characters_text (take i bytes)) ++ written_in in_cell (character_text byte)
    signs_more =
        let next : i + 1 ≡ suc i = omega arith in
        ap (λ n. written_in in_cell (characters_text (take n bytes))) next ∙ ap (λ xs. written_in in_cell (characters_text xs)) (take-suc bytes i 0 within) ∙ written_both (take i bytes) (get_or bytes i 0 ∷ [])
        ∙ ap (λ text. written_in in_cell (characters_text (take i bytes)) ++ written_in in_cell text) (append-nil (character_text (get_or bytes i 0)) ∙ ap character_text (sym is))

    -- and the others
    pub signs_cut : written_in in_cell (characters_text bytes) ≡ (written_in in_cell (characters_text (take i bytes)) ++ written_in in_cell (character_text byte)) ++ written_in in_cell (characters_text (drop (i + 1) bytes))
    signs_cut =
        ap (λ xs. written_in in_cell (characters_text xs)) (sym (take-append-drop (i + 1) bytes)) ∙ written_both (take (i + 1) bytes) (drop (i + 1) bytes)
        ∙ ap (λ front. front ++ written_in in_cell (characters_text (drop (i + 1) bytes))) signs_more
