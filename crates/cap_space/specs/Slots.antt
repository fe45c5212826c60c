-- How slots keep a capability space: the slot of a selector is at the place that is one less.
use Rattle.std.specs.Prelude.{◌≡◌, ℕ, ◌-◌, ◌<◌, ◌≤◌, List, ◌++◌, length, replicate, Option, None, is_some, IsSome, count_by, slice_index_or}
use Rattle.own_model.specs.NatMap.{NatMap}
use Rattle.own_model.specs.Slots.{held_from}
use Rattle.cap_space.specs.declared.cap.Cap.{Cap}
use Rattle.cap_space.specs.Space.{Space}
use Rattle.cap_space.specs.PlaceBitmap.{mark_at}

-- the slots of so many places: those of places that have been in use, and after them free ones
abbrev pub padded : {X : Type 0} → List (Option X) → ℕ → List (Option X)
padded slots places = slots ++ replicate (places - length slots) None

-- what the slots hold, by selectors
abbrev pub held : {X : Type 0} → List (Option X) → NatMap X
held slots = held_from 1 slots

-- the space that the slots keep
abbrev pub space_of : List (Option Cap) → Space
space_of slots = record { caps = held slots; places = length slots }

-- no place before this one is free
abbrev pub IsTakenBefore : {X : Type 0} → List (Option X) → ℕ → Type 0
IsTakenBefore slots end = (place : ℕ) → place < end → IsSome (slice_index_or slots place None)

-- what is true of the slots between calls: no memory is reserved beyond them, the marks and the count are right, and
-- selectors fit 32 bits
pub record IsKept (slots : List (Option Cap)) (capacity : ℕ) (words : List ℕ) (used : ℕ) : Type 0 where
  pub reserved : capacity ≡ length slots
  pub few : length slots ≤ 4096
  pub taken : (place : ℕ) → mark_at words place ≡ 1 → IsSome (slice_index_or slots place None)
  pub free : (place : ℕ) → mark_at words place ≡ 0 → slice_index_or slots place None ≡ None
  pub counted : count_by is_some slots ≡ used
