-- Theorems about names.
use Rattle.std.specs.Prelude.{◌≡◌, ℕ, List, ◌∷◌, ◌++◌, is_none, length, position, slice_index, true, Option, Some, None, Ok, Err}
use Rattle.line_friendly.specs.Friendly.{trimmed_line}
use Rattle.line_names.specs.Filling.{filled, is_dollar, whole}
use Rattle.line_names.specs.NameTable.{Binding, NameTable, entered, left, newest, value_of, with_bound, with_given}

-- a line without `$` is its own filling, for any values of names, and so is one for the engine
abbrev pub PlainLinesStay : Type 0
PlainLinesStay = (known : NameTable) (line : List ℕ) → position is_dollar line ≡ None → filled known line ≡ Ok (whole line)

abbrev pub MarkedLinesStay : Type 0
MarkedLinesStay = (known : NameTable) (line : List ℕ) → slice_index (trimmed_line line) 0 ≡ 33 → filled known line ≡ Ok (whole line)

-- the value of a name is the one that was bound, unless the name is given
abbrev pub BoundNamesStand : Type 0
BoundNamesStand =
    (known : NameTable) (name value : List ℕ) → newest name known.given ≡ None →
    value_of (with_bound known name value) name ≡ Some value

-- the value of a given name is the given one, for any bindings
abbrev pub GivenNamesCount : Type 0
GivenNamesCount =
    (known : NameTable) (name value : List ℕ) (bound : List Binding) (rounds : List ℕ) →
    value_of (record { given = (with_given known name value).given; bound = bound; rounds = rounds }) name ≡ Some value

-- once a round is left, names have the values that they had before it, for any bindings in the round
abbrev pub RoundsAreForgotten : Type 0
RoundsAreForgotten =
    (known : NameTable) (bound : List Binding) →
    left (record { given = known.given; bound = known.bound ++ bound; rounds = (entered known).rounds }) ≡ known
