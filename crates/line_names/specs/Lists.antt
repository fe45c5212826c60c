-- A start list with the values of its names.
use Rattle.std.specs.Prelude.{ℕ, ◌+◌, ◌==◌, zero, suc, List, [], ◌∷◌, ◌++◌, length, take, drop, codes, nat_eq, nat_lt, if◌then◌else◌, Option, Some, None, Result, Ok, Err}
use Rattle.std.specs.List.{position_or_len, starts_with}
use Rattle.std.specs.Option.{option_map_or}
use Rattle.line_names.specs.NameTable.{NameTable, value_of}
use Rattle.line_names.specs.Names.{is_name}
use Rattle.line_names.specs.Sums.{and_then}
use Rattle.line_names.specs.declared.list_filling.UnknownName.{UnknownName}

-- the number of bytes of a text before a closing brace
abbrev pub brace_of : List ℕ → ℕ
brace_of text = position_or_len (λ b. b == 125) text

-- the text in braces
abbrev pub name_behind : List ℕ → Option (List ℕ)
name_behind text =
    if nat_lt (brace_of text) (length text)
    then (if is_name (take (brace_of text) text) then Some (take (brace_of text) text) else None) else None

-- the name of a `${NAME}` with which a text begins
abbrev pub name_at : List ℕ → Option (List ℕ)
name_at text = if starts_with nat_eq text (codes "${") then name_behind (drop 2 text) else None

-- the place after a text, from one on
abbrev pub place_from : UnknownName → List ℕ → UnknownName
place_from place [] = place
place_from place (b ∷ bs) =
    place_from (if b == 10 then record { line = place.line + 1; column = 1 } else record place { column = place.column + 1 }) bs

abbrev pub place_of : List ℕ → UnknownName
place_of text = place_from (record { line = 1; column = 1 }) text

-- the bytes for a name, and for any other byte
abbrev pub value_told : List ℕ → Option (List ℕ) → Result (List ℕ) UnknownName
value_told before (Some value) = Ok value
value_told before None = Err (place_of before)

abbrev pub piece_told : NameTable → List ℕ → ℕ → Option (List ℕ) → Result (List ℕ) UnknownName
piece_told known before b (Some name) = value_told before (value_of known name)
piece_told known before b None = Ok (b ∷ [])

-- a text after another; its first bytes belong to a name before it
abbrev pub filled_from : NameTable → List ℕ → ℕ → List ℕ → List ℕ → Result (List ℕ) UnknownName
filled_from known before skip made [] = Ok made
filled_from known before (suc skip) made (b ∷ bs) = filled_from known (before ++ b ∷ []) skip made bs
filled_from known before zero made (b ∷ bs) =
    and_then (piece_told known before b (name_at (b ∷ bs)))
    (λ piece. filled_from known (before ++ b ∷ []) (option_map_or (λ name. length name + 2) (name_at (b ∷ bs)) 0) (made ++ piece) bs)

abbrev pub filled : NameTable → List ℕ → Result (List ℕ) UnknownName
filled known text = filled_from known [] 0 [] text
