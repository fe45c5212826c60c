-- How dataspaces are kept: the start of each is stored separately. No public clause cites this module.
use Rattle.std.specs.Prelude.{◌≡◌, ℕ, ◌-◌, ◌<◌, ◌≤◌, min, List, [], ◌∷◌, drop, length, Option, slice_index}
use Rattle.std.specs.Option.{option_map}
use Rattle.slab.specs.Slab.{Slab, ContainsKey}
use Rattle.dataspace_core.specs.declared.dataspace.Dataspace.{Dataspace}
use Rattle.dataspace_core.specs.declared.spaces.DataspaceEntry.{DataspaceEntry}

-- a dataspace, of what is kept of it and its start
abbrev pub placed_at : ℕ → DataspaceEntry → Dataspace
placed_at start kept = record { payer = kept.payer; run = record { start = start; count = kept.count } }

-- each with the start at its place
abbrev pub placed_slots : List (Option DataspaceEntry) → List ℕ → List (Option Dataspace)
placed_slots [] starts = []
placed_slots (slot ∷ slots) starts = option_map (placed_at (slice_index starts 0)) slot ∷ placed_slots slots (drop 1 starts)

-- the dataspaces by their keys
abbrev pub placed : Slab DataspaceEntry → List ℕ → Slab Dataspace
placed kept starts = record { slots = placed_slots kept.slots starts; vacant_key = kept.vacant_key; capacity = kept.capacity }

-- there is a start for each key that may come, and keys in use are below this one
pub record IsPlaced (kept : Slab DataspaceEntry) (starts : List ℕ) (used : ℕ) : Type 0 where
  pub roomy : length starts ≡ kept.capacity
  pub within : used ≤ length starts
  pub below : (key : ℕ) → ContainsKey kept key → key < used

-- where a run starts once a gap from this start on, of so many entries, is closed: so much earlier, but where the gap was
-- at the earliest
abbrev pub start_after : ℕ → ℕ → ℕ → ℕ
start_after from by start = start - min (start - from) by

-- the starts in front of a key have moved
pub record HaveMoved (from by used : ℕ) (starts new_starts : List ℕ) : Type 0 where
  pub size : length new_starts ≡ length starts
  pub each : (key : ℕ) → key < used → slice_index new_starts key ≡ start_after from by (slice_index starts key)
