-- The values of names.
use Rattle.std.specs.Prelude.{ℕ, ◌-◌, List, [], ◌∷◌, ◌++◌, length, take, nat_eq, slice_index, if◌then◌else◌, Option, Some, None}
use Rattle.std.specs.Option.{option_or}
use Rattle.std.specs.Str.{bytes_eq}

-- a name and its value
pub record Binding : Type 0 where
  pub name : List ℕ
  pub value : List ℕ

-- what was given from outside; what was bound since, the newest last; and how much was bound as each round began that isn't
-- left yet, the innermost last
pub record NameTable : Type 0 where
  pub given : List Binding
  pub bound : List Binding
  pub rounds : List ℕ

-- the newest that has a name
abbrev pub newest : List ℕ → List Binding → Option (List ℕ)
newest name [] = None
newest name (b ∷ bs) = option_or (newest name bs) (if bytes_eq b.name name then Some b.value else None)

-- the value of a name: the given one, and else the newest, which is the innermost round's
abbrev pub value_of : NameTable → List ℕ → Option (List ℕ)
value_of known name = option_or (newest name known.given) (newest name known.bound)

-- nothing is known
abbrev pub nothing : NameTable
nothing = record { given = []; bound = []; rounds = [] }

-- with a name that is given, or bound
abbrev pub with_given : NameTable → List ℕ → List ℕ → NameTable
with_given known name value = record known { given = known.given ++ record { name = name; value = value } ∷ [] }

abbrev pub with_bound : NameTable → List ℕ → List ℕ → NameTable
with_bound known name value = record known { bound = known.bound ++ record { name = name; value = value } ∷ [] }

-- a round begins
abbrev pub entered : NameTable → NameTable
entered known = record known { rounds = known.rounds ++ length known.bound ∷ [] }

-- the innermost round ends, and what was bound in it is forgotten; outside of rounds nothing changes
abbrev pub left : NameTable → NameTable
left known =
    if nat_eq (length known.rounds) 0 then known
    else record known {
      bound = take (slice_index known.rounds (length known.rounds - 1)) known.bound;
      rounds = take (length known.rounds - 1) known.rounds;
    }
