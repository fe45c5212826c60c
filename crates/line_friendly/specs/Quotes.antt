-- Texts in quotes: a backslash there escapes the next character.
use Rattle.std.specs.Prelude.{ℕ, ◌+◌, ◌==◌, ◌&&◌, not, Bool, true, false, List, [], ◌∷◌, take, drop, slice_index, codes, nat_eq, if◌then◌else◌, Option, Some, None}
use Rattle.std.specs.List.{list_all, starts_with}
use Rattle.std.specs.Option.{option_and_then, option_map, option_or}
use Rattle.std.specs.Str.{bytes_eq}
use Rattle.line_friendly.specs.Words.{is_blank, next_word}
use Rattle.line_friendly.specs.declared.quotes.QuoteState.{QuoteState}
use Rattle.line_friendly.specs.declared.quotes.QuoteState.TheVariants.{Outside, Within, Escaped}

-- the state of the byte after one
abbrev pub after_byte : QuoteState → ℕ → QuoteState
after_byte Outside b = if b == 34 then Within else Outside
after_byte Within b = if b == 34 then Outside else (if b == 92 then Escaped else Within)
after_byte Escaped b = Within

-- and what follows a text
abbrev pub after_text : QuoteState → List ℕ → QuoteState
after_text at [] = at
after_text at (b ∷ bs) = after_text (after_byte at b) bs

-- outside of quotes
abbrev pub is_outside : QuoteState → Bool
is_outside Outside = true
is_outside Within = false
is_outside Escaped = false

-- the last place outside of quotes at which the rest of a text has a property
abbrev pub last_outside : (List ℕ → Bool) → QuoteState → List ℕ → Option ℕ
last_outside test at [] = None
last_outside test at (b ∷ bs) =
    option_or (option_map (λ n. 1 + n) (last_outside test (after_byte at b) bs))
    (if is_outside at && test (b ∷ bs) then Some 0 else None)

-- the first place outside of quotes at which the rest of a text has a property
abbrev pub first_outside : (List ℕ → Bool) → QuoteState → List ℕ → Option ℕ
first_outside test at [] = None
first_outside test at (b ∷ bs) =
    if is_outside at && test (b ∷ bs) then Some 0
    else option_map (λ n. 1 + n) (first_outside test (after_byte at b) bs)

-- what parts a call from the reply that is expected, with a blank before it
abbrev pub is_arrow : List ℕ → Bool
is_arrow text = is_blank (slice_index text 0) && starts_with nat_eq (drop 1 text) (codes "=> ")

-- `=>` that is no arrow with a text after it, and the byte before it
abbrev pub is_stray : List ℕ → Bool
is_stray text = starts_with nat_eq (drop 1 text) (codes "=>") && not (is_arrow text && not (list_all is_blank (drop 4 text)))

-- the first place before such a `=>` that is outside of quotes
abbrev pub first_stray : QuoteState → List ℕ → Option ℕ
first_stray at [] = None
first_stray at (b ∷ bs) =
    if is_outside (after_byte at b) && is_stray (b ∷ bs) then Some 0
    else option_map (λ n. 1 + n) (first_stray (after_byte at b) bs)

-- the separator of a line and the comment after it: blanks, and `#` as a token
abbrev pub is_comment : List ℕ → Bool
is_comment text = is_blank (slice_index text 0) && bytes_eq (next_word text).word (codes "#")

-- a quote
abbrev pub is_quote : List ℕ → Bool
is_quote text = slice_index text 0 == 34

-- the place of the closing quote after an opening one
abbrev pub closing : Bool → List ℕ → Option ℕ
closing escaped [] = None
closing escaped (b ∷ bs) =
    if not escaped && b == 34 then Some 0 else option_map (λ n. 1 + n) (closing (not escaped && b == 92) bs)

-- the text between quotes that only blanks follow
abbrev pub closed_inside : List ℕ → Option (List ℕ)
closed_inside text =
    option_and_then (λ n. if list_all is_blank (drop (n + 1) text) then Some (take n text) else None) (closing false text)

-- the inside of a text in quotes, if a text is nothing else
abbrev pub inside_quotes : List ℕ → Option (List ℕ)
inside_quotes text = if is_quote text then closed_inside (drop 1 text) else None
