-- Lists of entries, each a key and its value.
use Rattle.std.specs.Prelude.{◌≡◌, ℕ, List, [], ◌∷◌, Option, None}
use Rattle.std.specs.Ordering.{nat_cmp}
use Rattle.std.specs.FinMap.Entries as keyed

-- the value of the first entry with a key
abbrev pub value_of : {X : Type 0} → ℕ → List (ℕ × X) → Option X
value_of q es = keyed.find nat_cmp q es

-- no two entries have one key
abbrev pub KeysDiffer : {X : Type 0} → List (ℕ × X) → Type 0
KeysDiffer [] = Unit {0}
KeysDiffer (e ∷ es) = (value_of e.0 es ≡ None) × KeysDiffer es
