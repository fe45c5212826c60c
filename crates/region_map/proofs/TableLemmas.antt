-- What each call of a table does, over its rows.
use Rattle.std.proofs.Common.{◌≡◌, ℕ, suc, zero, ◌<◌, ◌≤◌, true, false, List, [], ◌∷◌, length, get_or, Some, ◌%◌, ◌^◌, refl, sym, ap, subst, ◌∙◌, true≢false, is_some, arith}
use Rattle.std.proofs.lemmas.Option.{none-some}
use Rattle.std.specs.Prelude.{None}
use Rattle.std.specs.FinMap.{get, insert, remove, empty}
use Rattle.std.specs.List.{insert as insert_at, remove as remove_at}
use Rattle.own_model.specs.Region.{overlap, can_attach, IsPlace}
use Rattle.own_model.proofs.NatMapLemmas.{get-insert_same, get-insert_other}
use Rattle.own_model.proofs.RegionLemmas.{place, overlap_self}
use Rattle.region_map.specs.declared.row.RegionRow.{RegionRow}
use Rattle.region_map.specs.RegionRows.{region_of, tag_of, end_of, map_of, AreInOrder, count_to, IsTable}
use Rattle.region_map.specs.declared.known_rows.KnownRows.{KnownRows}
use Rattle.region_map.specs.KnownRows.{IsCloseAt, end_before, AreKnown, IsInserted}
use Rattle.region_map.proofs.GapLemmas.{clear_at}
use Rattle.region_map.proofs.KnownLemmas.{count_to-gap}
use Rattle.region_map.proofs.RowLemmas.{map_of-cons, map_of-insert, map_of-remove, AreInOrder-insert, AreInOrder-remove}
use Rattle.region_map.proofs.SearchLemmas.{from_low, last_before, get_last, get_nothing}

-- no rows are no map
pub map_of-none : {X : Type 0} (f : RegionRow → X) → map_of f [] ≡ empty
unfolding map_of
map_of-none f = refl

-- no rows are a table
pub IsTable-none : (low high : ℕ) → low % 4096 ≡ 0 → low ≤ high → high ≤ 2 ^ 40 → IsTable low high []
IsTable-none low high aligned within small = record { aligned = aligned; small = small; in_order = within }

-- ---- a row more

-- where a row is put in at a place
pub record Added (low high : ℕ) (rows : List RegionRow) (row : RegionRow) : Type 0 where
  pub table : IsTable low high (insert_at rows (count_to row.start rows) row)
  pub regions : map_of region_of (insert_at rows (count_to row.start rows) row) ≡ insert (map_of region_of rows) row.start (region_of row)
  pub tags : map_of tag_of (insert_at rows (count_to row.start rows) row) ≡ insert (map_of tag_of rows) row.start row.tag
  pub free : get (map_of region_of rows) row.start ≡ None

-- nothing starts at a place
free_at : {X : Type 0} (f : RegionRow → X) (low high : ℕ) (rows : List RegionRow) (row : RegionRow) → AreInOrder low high rows → IsPlace low high (map_of region_of rows) row.pages row.start → get (map_of f rows) row.start ≡ None
free_at f low high rows row is at =
    get_nothing f row.start low high rows is (λ r last same.
    let there : get (map_of region_of rows) r.start ≡ Some (region_of r) = get_last region_of row.start low high rows r is last in
    let clear : overlap r.start r.pages row.start row.pages ≡ false = at.free r.start (region_of r) there in
    absurd (true≢false (sym (overlap_self row.start r.pages row.pages r.some row.some) ∙ ap (λ q. overlap q r.pages row.start row.pages) (sym same) ∙ clear)))

-- a row at a place is put in
pub added : (low high : ℕ) (rows : List RegionRow) (row : RegionRow) → IsTable low high rows → can_attach low high (map_of region_of rows) row.pages row.start ≡ true → Added low high rows row
added low high rows row is can =
    let at = place low high (map_of region_of rows) row.pages row.start can in
    let clear = clear_at low high row.pages rows is.in_order row.start at in
    record {
      table = record { aligned = is.aligned; small = is.small; in_order = AreInOrder-insert low high rows row is.in_order at.from_low at.to_high clear };
      regions = map_of-insert region_of rows (count_to row.start rows) row (free_at region_of low high rows row is.in_order at);
      tags = map_of-insert tag_of rows (count_to row.start rows) row (free_at tag_of low high rows row is.in_order at);
      free = free_at region_of low high rows row is.in_order at;
    }

-- a row at the first gap is put in where the walk to the gap ended
pub gap_place : (low high at : ℕ) (rows : List RegionRow) (row : RegionRow) → IsTable low high rows → at ≤ length rows → (at < length rows → ¬ IsCloseAt low row.pages at rows) → row.start ≡ end_before low at rows → insert_at rows at row ≡ insert_at rows (count_to row.start rows) row
gap_place low high at rows row is within far start =
    ap (λ n. insert_at rows n row) (sym (ap (λ n. count_to n rows) start ∙ count_to-gap low high row.pages at rows row.some is.in_order within far))

-- a table with a region more, at an index of its rows: from a start on, with so many pages of a dataspace, and a number
pub record AddedAt (low high : ℕ) (rows now : List RegionRow) (at start pages ds tag : ℕ) : Type 0 where
  pub table : IsTable low high now
  pub regions : map_of region_of now ≡ insert (map_of region_of rows) start (record { of = ds; pages = pages })
  pub tags : map_of tag_of now ≡ insert (map_of tag_of rows) start tag
  pub free : get (map_of region_of rows) start ≡ None
  pub inserted : (known : KnownRows) → AreKnown low known rows → IsInserted low known at now

-- one at the first gap
pub added_at : (low high at : ℕ) (rows now : List RegionRow) (row : RegionRow) → IsTable low high rows → at ≤ length rows → (at < length rows → ¬ IsCloseAt low row.pages at rows) → row.start ≡ end_before low at rows → can_attach low high (map_of region_of rows) row.pages row.start ≡ true → now ≡ insert_at rows at row → AddedAt low high rows now at row.start row.pages row.ds.0 row.tag
added_at low high at rows now row is within far start can made =
    let facts = added low high rows row is can in
    let same = made ∙ gap_place low high at rows row is within far start in
    let table : IsTable low high now = subst (λ (r : List RegionRow). IsTable low high r) (sym same) facts.table in
    record {
      table = table;
      regions = ap (map_of region_of) same ∙ facts.regions;
      tags = ap (map_of tag_of) same ∙ facts.tags;
      free = facts.free;
      inserted = λ known was. record { old = rows; row = row; high = high; is = made; there = within; order = table.in_order; was = was };
    }

-- ---- a row less

-- a row put back where it was taken from
back : (rows : List RegionRow) (i : ℕ) (row : RegionRow) → i < length rows → row ≡ get_or rows i row → insert_at (remove_at rows i) i row ≡ rows
back [] i row h is = absurd (omega arith)
back (r ∷ rows) zero row h is = ap (λ x. x ∷ rows) is
back (r ∷ rows) (suc i) row h is = ap (λ rest. r ∷ rest) (back rows i row (omega arith) is)

-- without a row nothing starts where it did
gone : {X : Type 0} (f : RegionRow → X) (low high : ℕ) (rows : List RegionRow) (i : ℕ) (row : RegionRow) → AreInOrder low high rows → i < length rows → row ≡ get_or rows i row → get (map_of f (remove_at rows i)) row.start ≡ None
gone f low high [] i row is h at = absurd (omega arith)
gone f low high (r ∷ rows) zero row is h at =
    let some = r.some in
    ap (λ (x : RegionRow). get (map_of f rows) x.start) at
    ∙ get_nothing f r.start (end_of r) high rows is.1 (λ x last. absurd (none-some x (sym (last_before r.start (end_of r) high rows (omega arith) is.1) ∙ last)))
gone f low high (r ∷ rows) (suc i) row is h at =
    let past : end_of r ≤ row.start = subst (λ (x : RegionRow). end_of r ≤ x.start) (sym at) (from_low (end_of r) high i rows row is.1 (omega arith)) in
    let some = r.some in
    ap (λ m. get m row.start) (map_of-cons f r (remove_at rows i))
    ∙ get-insert_other (map_of f (remove_at rows i)) r.start (f r) row.start (λ e. absurd (omega arith))
    ∙ gone f (end_of r) high rows i row is.1 (omega arith) at

-- where a row is taken out
pub record Removed (low high : ℕ) (rows : List RegionRow) (i address : ℕ) : Type 0 where
  pub table : IsTable low high (remove_at rows i)
  pub regions : map_of region_of (remove_at rows i) ≡ remove (map_of region_of rows) address
  pub tags : map_of tag_of (remove_at rows i) ≡ remove (map_of tag_of rows) address
  pub there : is_some (get (map_of region_of rows) address) ≡ true

-- a row that starts at an address is taken out
pub removed : (low high : ℕ) (rows : List RegionRow) (i : ℕ) (row : RegionRow) (address : ℕ) → IsTable low high rows → i < length rows → row ≡ get_or rows i row → row.start ≡ address → Removed low high rows i address
removed low high rows i row address is h at same =
    let put_back = back rows i row h at in
    let free = gone region_of low high rows i row is.in_order h at in
    subst (λ (q : ℕ). Removed low high rows i q) same
    (record {
      table = record { aligned = is.aligned; small = is.small; in_order = AreInOrder-remove low high i rows is.in_order };
      regions = map_of-remove region_of rows i row put_back free;
      tags = map_of-remove tag_of rows i row put_back (gone tag_of low high rows i row is.in_order h at);
      there = ap (λ m. is_some (get m row.start)) (sym (ap (map_of region_of) put_back) ∙ map_of-insert region_of (remove_at rows i) i row free)
          ∙ ap is_some (get-insert_same (map_of region_of (remove_at rows i)) row.start (region_of row) row.start refl);
    })
