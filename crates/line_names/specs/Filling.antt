-- Lines that are filled with the values of their names.
use Rattle.std.specs.Prelude.{ℕ, ◌+◌, ◌-◌, ◌==◌, ◌||◌, not, Bool, true, false, zero, suc, List, [], ◌∷◌, ◌++◌, length, take, drop, codes, position, nat_eq, nat_lt, slice_index, is_none, if◌then◌else◌, Option, Some, None, Result, Ok, Err}
use Rattle.std.specs.List.{list_any, position_or_len, starts_with}
use Rattle.std.specs.Option.{option_map_or, unwrap_or}
use Rattle.std.specs.Str.{bytes_eq}
use Rattle.line_friendly.specs.Friendly.{arrow_of, end_of, trimmed_line}
use Rattle.line_friendly.specs.LineText.{added}
use Rattle.line_names.specs.NameTable.{NameTable, value_of}
use Rattle.line_names.specs.Names.{DollarToken, sign_of}
use Rattle.line_names.specs.Names.DollarToken.{Alone, Doubled, Named, Broken}
use Rattle.line_names.specs.Sums.{and_then, begins_sum, map_ok, sums_length, value_with}
use Rattle.line_names.specs.declared.fault.NameFault.{NameFault}
use Rattle.line_names.specs.declared.fault.NameReason.{NameReason}
use Rattle.line_names.specs.declared.fault.NameReason.TheVariants.{UnknownName, OpenBrace, TooLong, Twice, TooMany}

-- ---- pieces

-- the piece at the front of a text: its result, its number of bytes, and the name that the reply binds, for which the result is a
-- star
pub record Piece : Type 0 where
  pub text : List ℕ
  pub size : ℕ
  pub hole : Option (List ℕ)

-- a text unchanged, for this number of bytes
abbrev pub plain : List ℕ → ℕ → Piece
plain text size = record { text = text; size = size; hole = None }

-- a name of this number of bytes with its `$`, with the sums after it
abbrev pub named_piece : List ℕ → ℕ → Option (List ℕ) → List ℕ → Result Piece NameReason
named_piece name size (Some value) rest = map_ok (λ text. plain text (size + sums_length rest)) (value_with value rest)
named_piece name size None rest =
    if begins_sum rest then Err UnknownName
    else Ok (record { text = codes "*"; size = size; hole = Some name })

-- what a `$` is
abbrev pub piece_by : NameTable → List ℕ → DollarToken → Result Piece NameReason
piece_by known text Alone = Ok (plain (codes "$") 1)
piece_by known text Doubled = Ok (plain (codes "$") 2)
piece_by known text (Named name size) = named_piece name (1 + size) (value_of known name) (drop (1 + size) text)
piece_by known text Broken = Err OpenBrace

-- up to the first `$` a text is unchanged
abbrev pub is_dollar : ℕ → Bool
is_dollar b = b == 36

abbrev pub kept_length : List ℕ → ℕ
kept_length text = position_or_len is_dollar text

abbrev pub piece_of : NameTable → List ℕ → Result Piece NameReason
piece_of known text =
    if is_dollar (slice_index text 0) then piece_by known text (sign_of (drop 1 text))
    else Ok (plain (take (kept_length text) text) (kept_length text))

-- and a byte that doesn't count if that is a fault
abbrev pub piece_in : Result Piece NameReason → Piece
piece_in (Ok piece) = piece
piece_in (Err reason) = plain [] 1

abbrev pub piece_at : NameTable → List ℕ → Piece
piece_at known text = piece_in (piece_of known text)

-- ---- a line

-- a name that the reply binds, and the place of its star in the expected reply
pub record BoundName : Type 0 where
  pub name : List ℕ
  pub place : ℕ

-- the result so far for a line: its bytes, unless they are too many, and the names that the reply binds
pub record Made : Type 0 where
  pub line : Option (List ℕ)
  pub holes : List BoundName

abbrev pub made_length : Option (List ℕ) → ℕ
made_length line = option_map_or length line 0

-- the part of a line that may bind names: before a place of the line; and the start of the expected reply in the filled line
pub record BindingZone : Type 0 where
  pub limit : ℕ
  pub start : ℕ

-- the most names that one reply binds
abbrev pub most_bound_names : ℕ
most_bound_names = 16

-- a name is among those that the reply binds
abbrev pub is_among : List ℕ → List BoundName → Bool
is_among name holes = list_any (λ (h : BoundName). bytes_eq h.name name) holes

-- the names that the reply binds, with that of a piece at a place
abbrev pub with_bound_name : BindingZone → ℕ → Made → Option (List ℕ) → Result (List BoundName) NameReason
with_bound_name zone place made None = Ok made.holes
with_bound_name zone place made (Some name) =
    if not (nat_lt place zone.limit) then Err UnknownName
    else (if is_among name made.holes then Err Twice
    else (if nat_lt (length made.holes) most_bound_names
    then Ok (made.holes ++ record { name = name; place = made_length made.line - zone.start } ∷ [])
    else Err TooMany))

-- a line isn't too long
abbrev pub fitting : Option (List ℕ) → List BoundName → Result Made NameReason
fitting None holes = Err TooLong
fitting (Some line) holes = Ok (record { line = Some line; holes = holes })

abbrev pub with_piece : BindingZone → ℕ → Made → Piece → Result Made NameReason
with_piece zone place made piece =
    and_then (with_bound_name zone place made piece.hole) (λ holes. fitting (added made.line piece.text) holes)

-- with the piece at the front of a text
abbrev pub step_of : NameTable → BindingZone → ℕ → Made → List ℕ → Result Made NameReason
step_of known zone place made text = and_then (piece_of known text) (with_piece zone place made)

-- why, at a place
abbrev pub told_at : ℕ → Result Made NameReason → Result Made NameFault
told_at place (Ok made) = Ok made
told_at place (Err reason) = Err (record { reason = reason; column = place + 1 })

-- the filled text at a place of a line, of which the first bytes belong to a piece before
abbrev pub filled_from : NameTable → BindingZone → ℕ → ℕ → Made → List ℕ → Result Made NameFault
filled_from known zone skip place made [] = Ok made
filled_from known zone (suc skip) place made (b ∷ bs) = filled_from known zone skip (place + 1) made bs
filled_from known zone zero place made (b ∷ bs) =
    and_then (told_at place (step_of known zone place made (b ∷ bs)))
    (λ more. filled_from known zone ((piece_at known (b ∷ bs)).size - 1) (place + 1) more bs)

-- a filled line: its bytes, the part that is the expected reply, and the names that the reply binds
pub record FilledLine : Type 0 where
  pub line : List ℕ
  pub expected : List ℕ
  pub holes : List BoundName

-- a line without names that the reply binds
abbrev pub whole : List ℕ → FilledLine
whole line = record { line = line; expected = []; holes = [] }

-- a comment, a line for the engine, and one without `$` stay as they are
abbrev pub stays : List ℕ → Bool
stays line =
    is_none (position is_dollar line)
    || (slice_index (trimmed_line line) 0 == 33 || slice_index (trimmed_line line) 0 == 35)

-- a log line that is expected is filled whole, and any other line up to its comment
abbrev pub is_log : List ℕ → Bool
is_log line = starts_with nat_eq (trimmed_line line) (codes "=> ")

abbrev pub body_of : List ℕ → List ℕ
body_of line = if is_log line then line else take (end_of line) line

-- the number of bytes before the expected reply; in a log line and in a directive no name is bound
abbrev pub is_directive : List ℕ → Bool
is_directive line = slice_index (trimmed_line line) 0 == 64

abbrev pub front_length : List ℕ → ℕ
front_length line =
    if is_log line || is_directive line then length (body_of line)
    else option_map_or (λ n. n + 4) (arrow_of (body_of line)) (length (body_of line))

-- what is expected, in which names are bound up to a quote
abbrev pub zone_of : ℕ → List ℕ → Option (List ℕ) → BindingZone
zone_of place expected line =
    record { limit = place + position_or_len (λ b. b == 34) expected; start = made_length line }

abbrev pub no_zone : BindingZone
no_zone = record { limit = 0; start = 0 }

-- nothing was made yet
abbrev pub unmade : Made
unmade = record { line = Some []; holes = [] }

-- the expected reply is filled after a call
abbrev pub filled_behind : NameTable → ℕ → List ℕ → Made → Result Made NameFault
filled_behind known place expected made =
    filled_from known (zone_of place expected made.line) 0 place made expected

-- the filled line, of which this number of bytes is the call
abbrev pub filled_line : ℕ → Made → FilledLine
filled_line count made =
    record { line = unwrap_or made.line []; expected = drop count (unwrap_or made.line []); holes = made.holes }

abbrev pub filled_parts : NameTable → ℕ → List ℕ → Result FilledLine NameFault
filled_parts known count body =
    and_then (filled_from known no_zone 0 0 unmade (take count body))
    (λ made. map_ok (filled_line (made_length made.line)) (filled_behind known count (drop count body) made))

-- a line with the values of its names
abbrev pub filled : NameTable → List ℕ → Result FilledLine NameFault
filled known line =
    if stays line then Ok (whole line) else filled_parts known (front_length line) (body_of line)

-- ---- columns

-- how many bytes of a text are before the source of the byte at a place of the filled text, if the first bytes belong to a piece
-- before; after the last byte all are
abbrev pub source_from : NameTable → ℕ → ℕ → List ℕ → ℕ
source_from known skip n [] = 0
source_from known (suc skip) n (b ∷ bs) = 1 + source_from known skip n bs
source_from known zero n (b ∷ bs) =
    if nat_lt n (length (piece_at known (b ∷ bs)).text) then (if is_dollar b then 0 else n)
    else 1 + source_from known ((piece_at known (b ∷ bs)).size - 1) (n - length (piece_at known (b ∷ bs)).text) bs

-- the column of a line at which the source of the text at a column of the filled line begins
abbrev pub source_column : NameTable → List ℕ → ℕ → ℕ
source_column known line column =
    if stays line then column else 1 + source_from known 0 (column - 1) (body_of line)
