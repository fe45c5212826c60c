-- What a map with lowered keys answers, and where sliced blocks stand.
use Rattle.std.proofs.Common.{rules, ◌≡◌, ℕ, ◌+◌, ◌-◌, ◌/◌, ◌≤◌, true, false, eqb, List, [], ◌∷◌, length, nat_le, Some, refl, sym, ap, ◌∙◌, inl, inr, arith}
use Rattle.std.proofs.lemmas.Bool.{cases_lt}
use Rattle.std.proofs.lemmas.Bool.Decides.{nat_tests}
use Rattle.std.proofs.lemmas.Option.{none-some, same_Some}
use Rattle.std.specs.Prelude.{Option, None, if◌then◌else◌}
use Rattle.std.specs.Option.{option_and_then}
use Rattle.std.specs.List.{filter_map}
use Rattle.std.specs.Cmp.{nat_cmp_total}
use Rattle.std.specs.FinMap.{get, insert, remove, empty, entries, get-entries, get-from_entries}
use Rattle.own_model.proofs.EntryLemmas.{value_of-cons, value_of_later}
use Rattle.own_model.proofs.NatMapLemmas.{natmaps, same, get-empty, get-insert_other, before_remove, by_insertions, get-picked, picked-insert_some, picked-insert_alike, get-picked_at, and_then_from}
use Rattle.own_model.proofs.Totals.{total-insert_new, total-picked}
use Rattle.own_model.proofs.NatMapJoinedLemmas.{from_either, get-joined, joined_free}
use Rattle.own_model.proofs.HeapOwnLemmas.{range_of_bytes, chunk_map, heap_some, large_range}
use Rattle.own_model.specs.Entries.{value_of}
use Rattle.own_model.specs.OwnHeap.{ranges_of_large, ranges_of_heap}
use Rattle.own_model.specs.NatMap.{NatMap, moved_down, picked, total}
use Rattle.own_model.proofs.RegionLemmas.{first_gap_least, free_place}
use Rattle.own_model.specs.HeapWindow.{heap_low, heap_high, largest_machine}
use Rattle.own_model.specs.OwnState.{OwnState, heap_ranges}
use Rattle.own_model.specs.OwnStep.{own_heap_gap}
use Rattle.own_model.specs.Region.{Region, IsPlace}
use Rattle.own_model.specs.Sliced.{sliced_header, sliced_size, block_pages, ranges_of_blocks}

-- ---- lowered keys

-- a lowered key is the key
eqb-lowered : (by q k : ℕ) → nat_le by k ≡ true → eqb q (k - by) ≡ eqb (q + by) k
eqb-lowered by q k above = grind (arith, nat_tests)

-- and one that can't be lowered is none of them
eqb-too_low : (by q k : ℕ) → nat_le by k ≡ false → eqb (q + by) k ≡ false
eqb-too_low by q k low = grind (arith, nat_tests)

module _ {X : Type 0} (by : ℕ) where
  -- an entry under a lowered key, if that can be
  abbrev lowered : ℕ × X → Option (ℕ × X)
  lowered e = if nat_le by e.0 then Some (e.0 - by, e.1) else None

  -- lowered entries have under a key what the entries have so much higher
  value_of-lowered : (q : ℕ) (es : List (ℕ × X)) → value_of q (filter_map lowered es) ≡ value_of (q + by) es
  value_of-lowered q [] = refl
  value_of-lowered q (e ∷ es) = grind (arith, nat_tests, value_of-cons, eqb-lowered, value_of_later, eqb-too_low, value_of-lowered q es, value_of-lowered q es)

  -- a lowered map has under a key what the map has so much higher
  pub get-moved_down : (m : NatMap X) (q : ℕ) → get (moved_down by m) q ≡ get m (q + by)
  unfolding moved_down
  get-moved_down m q = get-from_entries nat_cmp_total (filter_map lowered (entries m)) q ∙ value_of-lowered q (entries m) ∙ sym (get-entries m (q + by))

  -- what is inserted is lowered
  pub moved_down-insert : (m : NatMap X) (k : ℕ) (v : X) → moved_down by (insert m (k + by) v) ≡ insert (moved_down by m) k v
  moved_down-insert m k v = same _ _ (λ q. let before = get-moved_down m q in get-moved_down (insert m (k + by) v) q ∙ grind (arith, natmaps, before))

  -- nothing is added to a sum
  pub total-moved_down_le : (f : X → ℕ) (m : NatMap X) → total f (moved_down by m) ≤ total f m
  total-moved_down_le f = by_insertions (λ m. total f (moved_down by m) ≤ total f m)
      (let e : moved_down by empty ≡ empty = same _ _ (λ q. get-moved_down empty q ∙ get-empty (q + by) ∙ sym (get-empty q)) in omega (arith, ap (total f) e))
      (λ m k v free rest.
      let more = total-insert_new f m k v free in
      elim (cases_lt k by) [
        | inl low ↦
            let gone : moved_down by (insert m k v) ≡ moved_down by m
            = same _ _ (λ q. get-moved_down (insert m k v) q ∙ get-insert_other m k v (q + by) (λ e. absurd (omega arith)) ∙ sym (get-moved_down m q)) in
            omega (arith, ap (total f) gone, more, rest)
        | inr above ↦
            let back : k - by + by ≡ k = omega arith in
            let grown : moved_down by (insert m k v) ≡ insert (moved_down by m) (k - by) v = rw back at (moved_down-insert m (k - by) v) in
            let new : get (moved_down by m) (k - by) ≡ None = get-moved_down m (k - by) ∙ ap (get m) back ∙ free in
            omega (arith, ap (total f) grown, total-insert_new f (moved_down by m) (k - by) v new, more, rest)
      ])

-- ---- where blocks stand

-- the pages of a block
abbrev pub range_of : List ℕ → Region
range_of payload = record { of = 0; pages = block_pages payload }

module _ (blocks : NatMap (List ℕ)) where
  -- their ranges as they are before they are lowered
  abbrev high_ranges : NatMap Region
  high_ranges = picked (λ payload. Some (range_of payload)) blocks

  -- at a start is the range of the block whose payload comes behind a header from there
  pub get-ranges : (start : ℕ) → get (ranges_of_blocks blocks) start ≡ option_and_then (λ payload. Some (range_of payload)) (get blocks (start + sliced_header))
  get-ranges start = get-moved_down sliced_header high_ranges start ∙ get-picked (λ payload. Some (range_of payload)) blocks (start + sliced_header)

  -- a block's range starts a header before its payload
  pub range_at : (start : ℕ) (payload : List ℕ) → get blocks (start + sliced_header) ≡ Some payload → get (ranges_of_blocks blocks) start ≡ Some (range_of payload)
  range_at start payload there = get-ranges start ∙ ap (option_and_then (λ p. Some (range_of p))) there

  -- each range is a block's
  pub range_from : (start : ℕ) (r : Region) → get (ranges_of_blocks blocks) start ≡ Some r → (payload : List ℕ) × (get blocks (start + sliced_header) ≡ Some payload) × (range_of payload ≡ r)
  range_from start r there = grind (arith, nat_tests, and_then_from, get-ranges, same_Some)

  -- a block more is a range more
  pub ranges-insert : (start : ℕ) (payload : List ℕ) → ranges_of_blocks (insert blocks (start + sliced_header) payload) ≡ insert (ranges_of_blocks blocks) start (range_of payload)
  ranges-insert start payload =
      ap (moved_down sliced_header) (picked-insert_some (λ p. Some (range_of p)) blocks (start + sliced_header) payload (range_of payload) refl)
      ∙ moved_down-insert sliced_header high_ranges start (range_of payload)

  -- the pages of all ranges are no more than those of all blocks
  pub total-ranges : total (λ region. region.pages) (ranges_of_blocks blocks) ≤ total block_pages blocks
  total-ranges = grind (arith, nat_tests, total-moved_down_le, total-picked)

-- other bytes, as many, leave the ranges
pub ranges-alike : (blocks : NatMap (List ℕ)) (address : ℕ) (old new : List ℕ) → get blocks address ≡ Some old → length new ≡ length old → ranges_of_blocks (insert blocks address new) ≡ ranges_of_blocks blocks
ranges-alike blocks address old new there e = grind (arith, nat_tests, picked-insert_alike, get-picked_at)

-- where a block goes, the ranges that are left were there
pub ranges-remove : (blocks : NatMap (List ℕ)) (address start : ℕ) (r : Region) → get (ranges_of_blocks (remove blocks address)) start ≡ Some r → get (ranges_of_blocks blocks) start ≡ Some r
ranges-remove blocks address start r there = grind (arith, nat_tests, range_from, range_at, before_remove)

-- where there is no range there is no block
no_block : (o : Option (List ℕ)) → option_and_then (λ payload. Some (range_of payload)) o ≡ None → o ≡ None
no_block None is = refl
no_block (Some payload) is = absurd (none-some (range_of payload) (sym is))

-- ---- the first gap among them

-- a block has a page
some_page : (payload : List ℕ) → 1 ≤ block_pages payload
some_page payload = omega arith

-- each range has a page
pub ranges_some : (blocks : NatMap (List ℕ)) (start : ℕ) (r : Region) → get (ranges_of_blocks blocks) start ≡ Some r → 1 ≤ r.pages
ranges_some blocks start r there = grind (arith, nat_tests, range_from, some_page)

-- a new block has a page
pub new_page : (n : ℕ) → 1 ≤ sliced_size n / 4096
new_page n = omega arith

-- each range in the heap window has a page
pub window_some : (s : OwnState) (q : ℕ) (r : Region) → get (heap_ranges s) q ≡ Some r → 1 ≤ r.pages
window_some s q r there = search (rules, from_either, get-joined, ranges_some, heap_some)

module _ (s : OwnState) (bytes start : ℕ) (gap : own_heap_gap bytes s ≡ Some start) where
  -- the first gap of the heap window is a place
  pub gap_place : IsPlace heap_low (heap_high largest_machine) (heap_ranges s) (bytes / 4096) start
  gap_place = grind (arith, nat_tests, first_gap_least)

  -- nothing starts there
  pub gap_open : 1 ≤ bytes / 4096 → (get (ranges_of_blocks s.sliced) start ≡ None) × (get (ranges_of_heap s.heap) start ≡ None)
  gap_open some =
      joined_free (ranges_of_blocks s.sliced) (ranges_of_heap s.heap) start
      (free_place heap_low (heap_high largest_machine) (heap_ranges s) (bytes / 4096) start some (window_some s) gap_place)

  -- no block's payload comes behind a header from there
  pub gap_free : 1 ≤ bytes / 4096 → get s.sliced (start + sliced_header) ≡ None
  gap_free some = no_block (get s.sliced (start + sliced_header)) (sym (get-ranges s.sliced start) ∙ (gap_open some).0)

  -- and no large block starts there
  pub gap_free_large : 1 ≤ bytes / 4096 → get s.heap.large start ≡ None
  gap_free_large some = elim (get s.heap.large start) as (λ o. get s.heap.large start ≡ o → o ≡ None) [
    | None ↦ λ _. refl
    | Some n ↦ λ there.
        let free = (joined_free (chunk_map s.heap.starts s.heap.shape.chunks) (ranges_of_large s.heap.large) start (gap_open some).1).1 in
        absurd (none-some (range_of_bytes n) (sym free ∙ large_range s.heap.large start n there))
  ] refl
