-- Why the heap window always has a gap: walked from its start, a region costs at most the pages sought and its own.
use Rattle.std.proofs.Common.{rules, ◌≡◌, ℕ, ◌+◌, ◌*◌, ◌%◌, ◌<◌, ◌≤◌, is_lt, Bool, true, false, true≢false, T, List, [], ◌∷◌, length, map, IsSome, Some, refl, sym, nat_cmp, inl, inr, arith, mul-add}
use Rattle.std.proofs.lemmas.Bool.{cases_lt, or_from}
use Rattle.std.proofs.lemmas.Bool.Decides.{nat_tests}
use Rattle.std.proofs.lemmas.Cmp.{ranked}
use Rattle.std.proofs.lemmas.List.Sums.{sum_by-cons}
use Rattle.std.proofs.lemmas.Nat.{mul-le}
use Rattle.std.specs.Prelude.{None, sum_by}
use Rattle.std.specs.List.{list_any}
use Rattle.std.specs.FinMap.{entries, entries_sorted, len, len-entries, is_sorted}
use Rattle.std.specs.FinMap.Entries.{below_all}
use Rattle.own_model.specs.HeapWindow.{heap_low, heap_high, heap_gap, FitMachine, HeapHasGap, HeapGapsAgree}
use Rattle.own_model.specs.NatMap.{NatMap, total}
use Rattle.own_model.specs.Region.{Region, overlap, can_attach, first_gap, IsPlace, IsFirstGap}
use Rattle.own_model.proofs.NatMapLemmas.{both_parts, is_less}
use Rattle.own_model.proofs.RegionLemmas.{meets_none, first_gap_least, first_gap_is, stands}
use Rattle.own_model.proofs.Totals.{len-total, total_le}

-- the pages of all entries
abbrev pages_in : List (ℕ × Region) → ℕ
pages_in es = sum_by (λ r. r.pages) (map (λ e. e.1) es)

-- an entry's region overlaps so many pages at an address
abbrev overlap_at : ℕ → ℕ → ℕ × Region → Bool
overlap_at address pages e = overlap e.0 e.1.pages address pages

-- ---- a place, wherever the regions lie

-- pages that end at a region's start, or before, don't overlap it
pub ends_before : (start others address pages : ℕ) → address + pages * 4096 ≤ start → overlap start others address pages ≡ false
ends_before start others address pages h = grind (arith, nat_tests)

-- nor do pages that start at its end or after
pub starts_after : (start others address pages : ℕ) → start + others * 4096 ≤ address → overlap start others address pages ≡ false
starts_after start others address pages h = grind (arith, nat_tests)

-- pages that end where all regions start, or before, are clear of all
clear_below : (pages address bound : ℕ) (es : List (ℕ × Region)) → address + pages * 4096 ≤ bound → T (below_all nat_cmp bound es) → list_any (overlap_at address pages) es ≡ false
clear_below pages address bound [] end above = refl
clear_below pages address bound (e ∷ es) end above =
    let parts : T (is_lt (nat_cmp bound e.0)) × T (below_all nat_cmp bound es) = both_parts _ _ above in
    let later : bound < e.0 = ranked bound e.0 _ (sym (is_less _ parts.0)) in
    or_from _ _ (ends_before e.0 e.1.pages address pages (omega arith)) (clear_below pages address bound es end parts.1)

-- an address from another one on, at a multiple of a page and no more than so many pages later, at which pages are clear of all regions
record Clear (es : List (ℕ × Region)) (pages low far : ℕ) : Type 0 where
  address : ℕ
  aligned : address % 4096 ≡ 0
  from_low : low ≤ address
  near : address ≤ low + far * 4096
  free : list_any (overlap_at address pages) es ≡ false

-- from any address there is such a place: past a region in the way by the pages sought and the region's own
clear_place : (pages low : ℕ) (es : List (ℕ × Region)) → T (is_sorted nat_cmp es) → low % 4096 ≡ 0 → Clear es pages low (length es * pages + pages_in es)
clear_place pages low [] sorted aligned = record { address = low; aligned = aligned; from_low = omega arith; near = omega arith; free = refl }
clear_place pages low (e ∷ es) sorted aligned =
    let parts : T (below_all nat_cmp e.0 es) × T (is_sorted nat_cmp es) = both_parts _ _ sorted in
    let all = sum_by-cons (λ (r : Region). r.pages) e.1 (map (λ (x : ℕ × Region). x.1) es) in
    elim (cases_lt e.0 (low + pages * 4096)) [
      | inl near ↦
          let rest = clear_place pages (low + (pages + e.1.pages) * 4096) es parts.1 (omega arith) in
          let from = rest.from_low in
          let to = rest.near in
          record {
            address = rest.address;
            aligned = rest.aligned;
            from_low = omega arith;
            near = omega arith;
            free = or_from _ _ (starts_after e.0 e.1.pages rest.address pages (omega arith)) rest.free;
          }
      | inr after ↦ record {
        address = low;
        aligned = aligned;
        from_low = omega arith;
        near = omega arith;
        free = or_from _ _ (ends_before e.0 e.1.pages low pages after) (clear_below pages low e.0 es after parts.0);
      }
    ]

-- ---- the heap window

-- the window is long enough
long_enough : (machine count pages own low address : ℕ) → count ≤ machine → own ≤ machine → pages ≤ machine → address ≤ low + (count * pages + own) * 4096 → address + pages * 4096 ≤ low + machine * (machine + 2) * 4096
long_enough machine count pages own low address few small short near = grind (arith, nat_tests, mul-le, mul-add)

module _ (machine : ℕ) (regions : NatMap Region) (fit : FitMachine machine regions) where
  -- there are no more regions than pages
  few_regions : len regions ≤ machine
  few_regions = grind (arith, nat_tests, total_le, len-total)

  -- so many pages have a place in the window
  heap_place : (pages : ℕ) → pages ≤ machine → (address : ℕ) × IsPlace heap_low (heap_high machine) regions pages address
  unfolding total
  heap_place pages small =
      let at = clear_place pages heap_low (entries regions) (entries_sorted regions) refl in (
        at.address,
        record {
          aligned = at.aligned;
          from_low = at.from_low;
          to_high = long_enough machine _ pages _ heap_low at.address (rw (← len-entries regions) few_regions) fit.few small at.near;
          free = λ start region. meets_none regions at.address pages start region at.free;
        },
      )

  -- so there is a first gap
  has_gap : (pages : ℕ) → pages ≤ machine → IsSome (heap_gap machine regions pages)
  has_gap pages small =
      let at = heap_place pages small in
      elim (heap_gap machine regions pages) as (λ o. IsFirstGap heap_low (heap_high machine) regions pages o → IsSome o) [
        | None ↦ λ none. absurd (none at.0 at.1)
        | Some address ↦ λ _. refl
      ] (first_gap_least heap_low (heap_high machine) regions pages)

-- the first gap of a window is that of a longer one
longer_window : (low high higher : ℕ) (regions : NatMap Region) (pages : ℕ) → high ≤ higher → IsSome (first_gap low high regions pages) → first_gap low high regions pages ≡ first_gap low higher regions pages
longer_window low high higher regions pages longer = search (rules, true≢false, first_gap_is, first_gap_least)

-- more pages are more bytes
longer : (a b : ℕ) → a ≤ b → heap_low + a * 4096 ≤ heap_low + b * 4096
longer a b h = omega arith

-- a machine's heap window always has a gap
pub heap_gap_is_there : HeapHasGap
heap_gap_is_there machine regions pages fit small = has_gap machine regions fit pages small

-- and it is that of a larger machine
pub heap_gaps_agree : HeapGapsAgree
heap_gaps_agree machine larger regions pages fit small more = grind (arith, nat_tests, longer_window, longer, mul-le, has_gap)

-- ---- beside it

-- pages can stand at a first gap
pub first_gap_stands : (low high : ℕ) (regions : NatMap Region) (pages address : ℕ) → first_gap low high regions pages ≡ Some address → can_attach low high regions pages address ≡ true
first_gap_stands low high regions pages address is = grind (arith, nat_tests, first_gap_least, stands)
