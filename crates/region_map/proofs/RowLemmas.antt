-- Rows in order as maps: what the maps have, and what stays when a row comes or rows go.
use Rattle.std.proofs.Common.{◌≡◌, ℕ, suc, zero, ◌+◌, ◌*◌, ◌<◌, ◌≤◌, ◌&&◌, ◌==◌, Bool, true, false, cond, not, eqb, T, is_lt, List, [], ◌∷◌, map, length, Some, refl, sym, ap, subst, ◌∙◌, nat_cmp, nat_le, arith}
use Rattle.std.proofs.lemmas.Bool.Decides.{nat_tests}
use Rattle.std.proofs.lemmas.List.{length-map}
use Rattle.std.specs.Prelude.{Option, None}
use Rattle.std.specs.Cmp.{nat_cmp_total}
use Rattle.std.specs.Option.{option_map}
use Rattle.std.specs.List.{list_any, insert as insert_at, remove as remove_at, filter, filter_map, cons_option}
use Rattle.std.specs.FinMap.{get, insert, remove, entries, entries_sorted, get-entries, get-from_entries, from_entries, len, len-entries, is_sorted, nat_cmp-IsAntisymmetric}
use Rattle.std.specs.FinMap.Entries.{below_all, same_entries}
use Rattle.std.proofs.lemmas.Bool.{or_parts}
use Rattle.own_model.specs.NatMap.{picked}
use Rattle.own_model.specs.Region.{Region, overlap, without}
use Rattle.own_model.proofs.NatMapLemmas.{same, natmaps, get-insert}
use Rattle.own_model.proofs.EntryLemmas.{value_of, value_of-cons}
use Rattle.region_map.specs.declared.row.RegionRow.{RegionRow}
use Rattle.region_map.specs.RegionRows.{region_of, end_of, map_of, AreInOrder, count_to}

-- a test that passes with another
both : (a b : Bool) → T a → T b → T (a && b)
both true b x y = y
both false b x y = absurd x

-- a lower number compares so
less : (a b : ℕ) → a < b → is_lt (nat_cmp a b) ≡ true
less a b h = grind (arith, nat_tests)

-- and passes the test for it
T-less : (a b : ℕ) → a < b → T (is_lt (nat_cmp a b))
T-less a b h = subst T (sym (less a b h)) tt

module _ {X : Type 0} (f : RegionRow → X) where
  -- a row's start with what f tells of it
  abbrev pub entry : RegionRow → ℕ × X
  entry row = (row.start, f row)

  -- rows that begin past a number start above it
  above : (k low high : ℕ) (rows : List RegionRow) → k < low → AreInOrder low high rows → T (below_all nat_cmp k (map entry rows))
  above k low high [] less is = tt
  above k low high (row ∷ rows) less is =
      let some = row.some in
      let first : k < row.start = let from = is.0 in omega arith in
      both _ _ (T-less k row.start first) (above k (end_of row) high rows (omega arith) is.1)

  -- rows in order have rising starts
  sorted : (low high : ℕ) (rows : List RegionRow) → AreInOrder low high rows → T (is_sorted nat_cmp (map entry rows))
  sorted low high [] is = tt
  sorted low high (row ∷ rows) is =
      let some = row.some in
      both _ _ (above row.start (end_of row) high rows (omega arith) is.1) (sorted (end_of row) high rows is.1)

  -- a start has what the first row that starts there has
  pub get-map_of : (rows : List RegionRow) (q : ℕ) → get (map_of f rows) q ≡ value_of q (map entry rows)
  unfolding map_of
  get-map_of rows q = get-from_entries nat_cmp_total (map entry rows) q

  -- so the entries are the rows
  pub entries-map_of : (low high : ℕ) (rows : List RegionRow) → AreInOrder low high rows → entries (map_of f rows) ≡ map entry rows
  entries-map_of low high rows is =
      same_entries nat_cmp nat_cmp_total nat_cmp-IsAntisymmetric (entries (map_of f rows)) (map entry rows)
      (entries_sorted (map_of f rows)) (sorted low high rows is) (λ q. sym (get-entries (map_of f rows) q) ∙ get-map_of rows q)

  -- and there are as many
  pub len-map_of : (low high : ℕ) (rows : List RegionRow) → AreInOrder low high rows → len (map_of f rows) ≡ length rows
  len-map_of low high rows is = len-entries (map_of f rows) ∙ ap length (entries-map_of low high rows is) ∙ length-map rows entry

  -- what a row adds in front
  pub map_of-cons : (row : RegionRow) (rows : List RegionRow) → map_of f (row ∷ rows) ≡ insert (map_of f rows) row.start (f row)
  unfolding map_of
  map_of-cons row rows = refl

  -- ---- a row more

  -- a row more, anywhere, at a start that none has
  value_of-insert : (rows : List RegionRow) (i : ℕ) (row : RegionRow) (q : ℕ) → value_of row.start (map entry rows) ≡ None → value_of q (map entry (insert_at rows i row)) ≡ cond (eqb q row.start) (Some (f row)) (value_of q (map entry rows))
  value_of-insert rows zero row q free = value_of-cons q (entry row) (map entry rows)
  value_of-insert [] (suc i) row q free = value_of-cons q (entry row) []
  value_of-insert (r ∷ rows) (suc i) row q free =
      grind (arith, nat_tests, value_of-cons q (entry r) (map entry (insert_at rows i row)), value_of-cons q (entry r) (map entry rows), value_of-cons row.start (entry r) (map entry rows), value_of-insert rows i row q)

  -- is what it has inserted
  pub map_of-insert : (rows : List RegionRow) (i : ℕ) (row : RegionRow) → get (map_of f rows) row.start ≡ None → map_of f (insert_at rows i row) ≡ insert (map_of f rows) row.start (f row)
  map_of-insert rows i row free = same _ _ (λ q.
      get-map_of (insert_at rows i row) q ∙ value_of-insert rows i row q (sym (get-map_of rows row.start) ∙ free)
      ∙ ap (cond (eqb q row.start) (Some (f row))) (sym (get-map_of rows q)) ∙ sym (get-insert (map_of f rows) row.start (f row) q))

  -- a row less, where its start is no other's: what it has is removed
  pub map_of-remove : (rows : List RegionRow) (i : ℕ) (row : RegionRow) → insert_at (remove_at rows i) i row ≡ rows → get (map_of f (remove_at rows i)) row.start ≡ None → map_of f (remove_at rows i) ≡ remove (map_of f rows) row.start
  map_of-remove rows i row back free =
      let whole : map_of f rows ≡ insert (map_of f (remove_at rows i)) row.start (f row) = ap (map_of f) (sym back) ∙ map_of-insert (remove_at rows i) i row free in
      same _ _ (λ q. grind (arith, natmaps, ap (λ m. get m q) whole))

-- ---- the order that stays

-- what starts later still follows
AreInOrder-from : (lower low high : ℕ) (rows : List RegionRow) → lower ≤ low → AreInOrder low high rows → AreInOrder lower high rows
AreInOrder-from lower low high [] less is = omega arith
AreInOrder-from lower low high (row ∷ rows) less is = (let from = is.0 in omega arith, is.1)

-- the rows but one are in order
pub AreInOrder-remove : (low high i : ℕ) (rows : List RegionRow) → AreInOrder low high rows → AreInOrder low high (remove_at rows i)
AreInOrder-remove low high zero [] is = is
AreInOrder-remove low high (suc i) [] is = is
AreInOrder-remove low high zero (row ∷ rows) is = AreInOrder-from low (end_of row) high rows (let from = is.0 in omega arith) is.1
AreInOrder-remove low high (suc i) (row ∷ rows) is = (is.0, AreInOrder-remove (end_of row) high i rows is.1)

-- so are those that pass a test
pub AreInOrder-filter : (keep : RegionRow → Bool) (low high : ℕ) (rows : List RegionRow) → AreInOrder low high rows → AreInOrder low high (filter keep rows)
AreInOrder-filter keep low high [] is = is
AreInOrder-filter keep low high (row ∷ rows) is =
    let rest = AreInOrder-filter keep (end_of row) high rows is.1 in
    elim (keep row) as (λ b. AreInOrder low high (cond b (row ∷ filter keep rows) (filter keep rows))) [
      | true ↦ (is.0, rest)
      | false ↦ AreInOrder-from low (end_of row) high (filter keep rows) (let from = is.0 in omega arith) rest
    ]

-- pages that don't overlap what starts at their address or before start at its end or after
after_end : (start others address pages : ℕ) → 1 ≤ pages → start ≤ address → overlap start others address pages ≡ false → start + others * 4096 ≤ address
after_end start others address pages some before h = grind (arith, nat_tests)

-- and end where what starts after their address starts, or before
before_start : (start others address pages : ℕ) → 1 ≤ others → address < start → overlap start others address pages ≡ false → address + pages * 4096 ≤ start
before_start start others address pages some after h = grind (arith, nat_tests)

-- a row that overlaps none of those in order stands among them where the binary search says
pub AreInOrder-insert : (low high : ℕ) (rows : List RegionRow) (row : RegionRow) → AreInOrder low high rows → low ≤ row.start → end_of row ≤ high → list_any (λ e. overlap e.0 e.1.pages row.start row.pages) (map (entry region_of) rows) ≡ false → AreInOrder low high (insert_at rows (count_to row.start rows) row)
unfolding count_to
AreInOrder-insert low high [] row is from to clear = (from, to)
AreInOrder-insert low high (r ∷ rows) row is from to clear =
    let parts = or_parts (overlap r.start r.pages row.start row.pages) (list_any (λ e. overlap e.0 e.1.pages row.start row.pages) (map (entry region_of) rows)) clear in
    elim (nat_le r.start row.start) as (λ b. nat_le r.start row.start ≡ b → AreInOrder low high (insert_at (r ∷ rows) (cond b (suc (count_to row.start rows)) 0) row)) [
      | true ↦ λ t.
          let before : r.start ≤ row.start = grind (arith, nat_tests) in
          (is.0, AreInOrder-insert (end_of r) high rows row is.1 (after_end r.start r.pages row.start row.pages row.some before parts.0) to parts.1)
      | false ↦ λ t.
          let after : row.start < r.start = grind (arith, nat_tests) in
          (from, (before_start r.start r.pages row.start row.pages r.some after parts.0, is.1))
    ] refl

-- ---- all but those of a dataspace

-- a region, unless it is of one dataspace
abbrev but : ℕ → Region → Option Region
but ds region = cond (region.of == ds) None (Some region)

-- the rows of other dataspaces have the entries that are picked
entries-others : (ds : ℕ) (rows : List RegionRow) → map (entry region_of) (filter (λ row. not (row.ds.0 == ds)) rows) ≡ filter_map (λ e. option_map (λ y. (e.0, y)) (but ds e.1)) (map (entry region_of) rows)
entries-others ds [] = refl
entries-others ds (row ∷ rows) =
    let rest = entries-others ds rows in
    elim (row.ds.0 == ds) as (λ b. map (entry region_of) (cond (not b) (row ∷ filter (λ r. not (r.ds.0 == ds)) rows) (filter (λ r. not (r.ds.0 == ds)) rows)) ≡ cons_option (option_map (λ y. (row.start, y)) (cond b None (Some (region_of row)))) (filter_map (λ e. option_map (λ y. (e.0, y)) (but ds e.1)) (map (entry region_of) rows))) [
      | true ↦ rest
      | false ↦ ap (λ es. entry region_of row ∷ es) rest
    ]

-- without the rows of a dataspace its regions are gone
pub map_of-others : (ds low high : ℕ) (rows : List RegionRow) → AreInOrder low high rows → map_of region_of (filter (λ row. not (row.ds.0 == ds)) rows) ≡ without ds (map_of region_of rows)
unfolding map_of picked
map_of-others ds low high rows is =
    ap (λ es. from_entries {R = nat_cmp} es) (entries-others ds rows)
    ∙ ap (λ es. from_entries {R = nat_cmp} (filter_map (λ e. option_map (λ y. (e.0, y)) (but ds e.1)) es)) (sym (entries-map_of region_of low high rows is))
