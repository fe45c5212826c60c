-- A list of slots as a finite map: the slot at a place is known by the place's number from a first one on.
use Rattle.std.specs.Prelude.{ℕ, ◌+◌, List, [], ◌∷◌, Option, Some, None}
use Rattle.std.specs.FinMap.{from_entries}
use Rattle.own_model.specs.NatMap.{NatMap}

-- the slots that are taken, by their numbers, the first slot's being this one
abbrev pub taken_from : {X : Type 0} → ℕ → List (Option X) → List (ℕ × X)
taken_from first [] = []
taken_from first (None ∷ rest) = taken_from (first + 1) rest
taken_from first (Some x ∷ rest) = (first, x) ∷ taken_from (first + 1) rest

-- what the slots hold, by their numbers
unfoldable pub held_from : {X : Type 0} → ℕ → List (Option X) → NatMap X
held_from first slots = from_entries (taken_from first slots)
