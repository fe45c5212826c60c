-- How rows are kept: where each region lies, and the rest of the row in a slot. No public clause cites this module.
use Rattle.std.proofs.Common.{arith}
use Rattle.std.specs.Prelude.{◌≡◌, ◌⊎◌, ℕ, ◌+◌, ◌*◌, ◌<◌, ◌≤◌, ◌==◌, List, [], ◌∷◌, ◌++◌, map, length, slice_index_or, if◌then◌else◌, refl}
use Rattle.std.specs.List.{sum_by}
use Rattle.std.specs.Coded.{Coded, code_by, coded×, coded_ℕ, coded_list}
use Rattle.region_map.specs.declared.region_span.RegionSpan.{RegionSpan}
use Rattle.region_map.specs.declared.row.RegionRow.{RegionRow}
use Rattle.region_map.specs.declared.rows.SlotData.{SlotData}

-- the rows of a table, and how many there are at most
pub record RowList : Type 0 where
  pub items : List RegionRow
  pub capacity : ℕ

-- rows are stored as the pair of these
abbrev pub coded_rows : Coded RegionRow → Coded RowList
coded_rows row = code_by (List RegionRow × ℕ) (coded× (coded_list row) coded_ℕ) (λ r. (r.items, r.capacity)) (λ p. record { items = p.0; capacity = p.1 }) (λ _. refl)

-- ---- one row

-- where the region at a place starts
abbrev pub start_in : RegionSpan → ℕ
start_in place = place.page * 4096

-- what a slot keeps that no row has
abbrev pub no_row : SlotData
no_row = record { ds = record { 0 = 0 }; tag = 0 }

-- what a slot keeps
abbrev pub kept_in : List SlotData → ℕ → SlotData
kept_in kept slot = slice_index_or kept slot no_row

-- the row of a place
abbrev pub row_at : List SlotData → RegionSpan → RegionRow
row_at kept place = record {
  start = start_in place;
  pages = place.pages;
  ds = (kept_in kept place.slot).ds;
  tag = (kept_in kept place.slot).tag;
  aligned = omega arith;
  some = place.some;
  fits = let fits = place.fits in omega arith;
}

-- the rows of places
abbrev pub rows_of : List SlotData → List RegionSpan → List RegionRow
rows_of kept places = map (row_at kept) places

-- ---- slots

-- 1 for a slot, 0 for another
abbrev pub is_slot : ℕ → ℕ → ℕ
is_slot slot other = if other == slot then 1 else 0

-- how often a slot is in a list
abbrev pub times : ℕ → List ℕ → ℕ
times slot slots = sum_by (is_slot slot) slots

-- how many places refer to a slot
abbrev pub named : ℕ → List RegionSpan → ℕ
named slot places = sum_by (λ place. is_slot slot place.slot) places

-- a slot was free and is so no more, or is new
abbrev pub IsSlot : List SlotData → List ℕ → ℕ → List SlotData → List ℕ → Type 0
IsSlot kept free slot kept' free' =
    ((free ≡ free' ++ slot ∷ []) × (kept' ≡ kept))
    ⊎ ((free ≡ []) × (free' ≡ []) × (slot ≡ length kept) × (kept' ≡ kept ++ no_row ∷ []))

-- each slot is named by one place, or is free, and there is room for all
pub record AreStored (places : List RegionSpan) (kept : List SlotData) (free : List ℕ) (capacity kept_room free_room : ℕ) : Type 0 where
  pub counted : length places + length free ≡ length kept
  pub within : length kept ≤ capacity
  pub few : capacity ≤ 4096
  pub kept_roomy : capacity ≤ kept_room
  pub free_roomy : capacity ≤ free_room
  pub once : (slot : ℕ) → named slot places + times slot free ≤ 1
  pub there : (slot : ℕ) → 1 ≤ named slot places + times slot free → slot < length kept
