-- The first gap between rows in order is the first gap of the window.
use Rattle.std.proofs.Common.{◌≡◌, ℕ, suc, ◌+◌, ◌*◌, ◌%◌, ◌^◌, ◌<◌, ◌≤◌, true, false, cond, List, [], ◌∷◌, length, get_or, drop, drop-cons, add-one, map, Some, refl, sym, ap, ◌∙◌, nat_le, arith}
use Rattle.std.proofs.lemmas.Bool.{le-leb, lt-leb, leb-true, leb-false, or_from, or_parts}
use Rattle.std.proofs.lemmas.Bool.Decides.{nat_tests}
use Rattle.std.specs.Prelude.{Option, None}
use Rattle.std.specs.List.{list_any}
use Rattle.own_model.specs.Region.{overlap, first_gap, IsPlace, IsFirstGap}
use Rattle.own_model.proofs.HeapGapLemmas.{ends_before, starts_after}
use Rattle.own_model.proofs.RegionLemmas.{meets_none, clear_of_all, first_gap_is}
use Rattle.region_map.specs.declared.row.RegionRow.{RegionRow}
use Rattle.region_map.specs.RegionRows.{region_of, end_of, map_of, AreInOrder, gap_from, IsTable}
use Rattle.region_map.proofs.RowLemmas.{entry, entries-map_of}
use Rattle.region_map.proofs.SearchLemmas.{overlap_at}

-- rows in order end where they may
pub ends : (low high : ℕ) (rows : List RegionRow) → AreInOrder low high rows → low ≤ high
ends low high [] is = is
ends low high (row ∷ rows) is =
    let rest = ends (end_of row) high rows is.1 in
    let from = is.0 in
    omega arith

-- a table's window starts at a small address
pub low_small : (low high : ℕ) (rows : List RegionRow) → IsTable low high rows → low ≤ 2 ^ 45
low_small low high rows is =
    let within = ends low high rows is.in_order in
    let small = is.small in
    omega arith

-- pages that end where rows begin, or before, overlap none
clear_of_rows : (address pages low high : ℕ) (rows : List RegionRow) → address + pages * 4096 ≤ low → AreInOrder low high rows → list_any (overlap_at address pages) (map (entry region_of) rows) ≡ false
clear_of_rows address pages low high [] h is = refl
clear_of_rows address pages low high (row ∷ rows) h is =
    let from = is.0 in
    or_from _ _ (ends_before row.start row.pages address pages (omega arith)) (clear_of_rows address pages (end_of row) high rows (omega arith) is.1)

-- so many pages can stand at an address between rows
record Stands (low high pages : ℕ) (rows : List RegionRow) (address : ℕ) : Type 0 where
  aligned : address % 4096 ≡ 0
  from_low : low ≤ address
  to_high : address + pages * 4096 ≤ high
  clear : list_any (overlap_at address pages) (map (entry region_of) rows) ≡ false

-- the least such address, or that there is none
abbrev IsFirst : ℕ → ℕ → ℕ → List RegionRow → Option ℕ → Type 0
IsFirst low high pages rows (Some a) = Stands low high pages rows a × ((b : ℕ) → b < a → ¬ Stands low high pages rows b)
IsFirst low high pages rows None = (b : ℕ) → ¬ Stands low high pages rows b

-- where pages stand behind a row, they stand in front of which it stands
stands_behind : (low high pages : ℕ) (row : RegionRow) (rows : List RegionRow) (address : ℕ) → low ≤ row.start → Stands (end_of row) high pages rows address → Stands low high pages (row ∷ rows) address
stands_behind low high pages row rows address from at =
    let past = at.from_low in
    record {
      aligned = at.aligned;
      from_low = omega arith;
      to_high = at.to_high;
      clear = or_from _ _ (starts_after row.start row.pages address pages past) at.clear;
    }

-- what doesn't overlap a row, and has no room in front of it, starts behind it
behind : (low start others address pages : ℕ) → start < low + pages * 4096 → low ≤ address → overlap start others address pages ≡ false → start + others * 4096 ≤ address
behind low start others address pages no_room from clear = grind (arith, nat_tests)

-- where there is no room in front of a row, pages stand behind it
only_behind : (low high pages : ℕ) (row : RegionRow) (rows : List RegionRow) (address : ℕ) → row.start < low + pages * 4096 → Stands low high pages (row ∷ rows) address → Stands (end_of row) high pages rows address
only_behind low high pages row rows address no_room at =
    let parts = or_parts (overlap row.start row.pages address pages) (list_any (overlap_at address pages) (map (entry region_of) rows)) at.clear in
    record {
      aligned = at.aligned;
      from_low = behind low row.start row.pages address pages no_room at.from_low parts.0;
      to_high = at.to_high;
      clear = parts.1;
    }

-- what is first behind a row is first of all, where there is no room in front of it
first_behind : (low high pages : ℕ) (row : RegionRow) (rows : List RegionRow) (o : Option ℕ) → low ≤ row.start → row.start < low + pages * 4096 → IsFirst (end_of row) high pages rows o → IsFirst low high pages (row ∷ rows) o
first_behind low high pages row rows None from no_room none = λ b at. none b (only_behind low high pages row rows b no_room at)
first_behind low high pages row rows (Some a) from no_room is = (stands_behind low high pages row rows a from is.0, λ b below at. is.1 b below (only_behind low high pages row rows b no_room at))

-- ---- one row after another

-- the rows from one on are that one and those after it
pub drop-row : (i : ℕ) (rows : List RegionRow) (row : RegionRow) → i < length rows → row ≡ get_or rows i row → drop i rows ≡ row ∷ drop (i + 1) rows
drop-row i rows row h is = rw add-one (drop-cons rows i row h ∙ ap (λ r. r ∷ drop (suc i) rows) (sym is))

-- where there is room in front of a row, the gap is there
pub gap_in_front : (address high pages : ℕ) (row : RegionRow) (rows : List RegionRow) → address + pages * 4096 ≤ row.start → gap_from address high (row ∷ rows) pages ≡ Some address
unfolding gap_from
gap_in_front address high pages row rows h = ap (λ b. cond b (Some address) (gap_from (end_of row) high rows pages)) (le-leb _ _ h)

-- where there is none, it is behind it
pub gap_behind : (address high pages : ℕ) (row : RegionRow) (rows : List RegionRow) → row.start < address + pages * 4096 → gap_from address high (row ∷ rows) pages ≡ gap_from (end_of row) high rows pages
unfolding gap_from
gap_behind address high pages row rows h = ap (λ b. cond b (Some address) (gap_from (end_of row) high rows pages)) (lt-leb _ _ h)

-- after the last row it is where the window has room
pub gap_at_end : (address high pages : ℕ) → address + pages * 4096 ≤ high → gap_from address high [] pages ≡ Some address
unfolding gap_from
gap_at_end address high pages h = ap (λ b. cond b (Some address) None) (le-leb _ _ h)

-- or there is none
pub no_gap_at_end : (address high pages : ℕ) → high < address + pages * 4096 → gap_from address high [] pages ≡ None
unfolding gap_from
no_gap_at_end address high pages h = ap (λ b. cond b (Some address) None) (lt-leb _ _ h)

-- ---- the first gap of the window

-- what starts at a multiple of a page ends at one
end_aligned : (start pages : ℕ) → start % 4096 ≡ 0 → (start + pages * 4096) % 4096 ≡ 0
end_aligned start pages h = omega arith

-- the gap between the rows is the first
gap_is_first : (low high pages : ℕ) (rows : List RegionRow) → low % 4096 ≡ 0 → AreInOrder low high rows → IsFirst low high pages rows (gap_from low high rows pages)
unfolding gap_from
gap_is_first low high pages [] aligned is =
    elim (nat_le (low + pages * 4096) high) as (λ b. nat_le (low + pages * 4096) high ≡ b → IsFirst low high pages [] (cond b (Some low) None)) [
      | true ↦ λ t. (record { aligned = aligned; from_low = omega arith; to_high = leb-true _ _ t; clear = refl }, λ b below at. let from = at.from_low in omega arith)
      | false ↦ λ t b at. let from = at.from_low in let to = at.to_high in let past = leb-false _ _ t in omega arith
    ] refl
gap_is_first low high pages (row ∷ rows) aligned is =
    let from = is.0 in
    elim (nat_le (low + pages * 4096) row.start) as (λ b. nat_le (low + pages * 4096) row.start ≡ b → IsFirst low high pages (row ∷ rows) (cond b (Some low) (gap_from (end_of row) high rows pages))) [
      | true ↦ λ t.
          let before = leb-true _ _ t in
          let end = ends (end_of row) high rows is.1 in (
            record {
              aligned = aligned;
              from_low = omega arith;
              to_high = omega arith;
              clear = clear_of_rows low pages row.start high (row ∷ rows) before (omega arith, is.1);
            },
            λ b below at. let at_least = at.from_low in omega arith,
          )
      | false ↦ λ t.
          first_behind low high pages row rows _ from (leb-false _ _ t)
          (gap_is_first (end_of row) high pages rows (end_aligned row.start row.pages row.aligned) is.1)
    ] refl

module _ (low high pages : ℕ) (rows : List RegionRow) (is : AreInOrder low high rows) where
  -- where pages stand between the rows is a place
  to_place : (address : ℕ) → Stands low high pages rows address → IsPlace low high (map_of region_of rows) pages address
  to_place address at = record {
    aligned = at.aligned;
    from_low = at.from_low;
    to_high = at.to_high;
    free = λ start region. meets_none (map_of region_of rows) address pages start region (ap (list_any (overlap_at address pages)) (entries-map_of region_of low high rows is) ∙ at.clear);
  }

  -- and the other way round
  pub clear_at : (address : ℕ) → IsPlace low high (map_of region_of rows) pages address → list_any (overlap_at address pages) (map (entry region_of) rows) ≡ false
  clear_at address at = sym (ap (list_any (overlap_at address pages)) (entries-map_of region_of low high rows is)) ∙ clear_of_all (map_of region_of rows) address pages at.free

  -- a place stands between the rows
  from_place : (address : ℕ) → IsPlace low high (map_of region_of rows) pages address → Stands low high pages rows address
  from_place address at = record { aligned = at.aligned; from_low = at.from_low; to_high = at.to_high; clear = clear_at address at }

  -- the first of the one kind is that of the other
  to_first : (o : Option ℕ) → IsFirst low high pages rows o → IsFirstGap low high (map_of region_of rows) pages o
  to_first None none = λ b at. none b (from_place b at)
  to_first (Some a) first = (to_place a first.0, λ b below at. first.1 b below (from_place b at))

-- so the gap between the rows is the first gap
pub first_gap-rows : (low high pages : ℕ) (rows : List RegionRow) → IsTable low high rows → gap_from low high rows pages ≡ first_gap low high (map_of region_of rows) pages
first_gap-rows low high pages rows is =
    sym (first_gap_is low high (map_of region_of rows) pages (gap_from low high rows pages)
    (to_first low high pages rows is.in_order (gap_from low high rows pages) (gap_is_first low high pages rows is.aligned is.in_order)))
