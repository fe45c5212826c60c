-- The gap is that of the window, and its row is put in where the search ended.
use Rattle.std.proofs.Common.{◌≡◌, ℕ, ◌<◌, List, length, nat_le, true, false, Some, sym, ap, ◌∙◌, subst, arith}
use Rattle.std.proofs.lemmas.Bool.Decides.{nat_tests}
use Rattle.std.specs.Prelude.{Option}
use Rattle.std.specs.FinMap.{len}
use Rattle.own_model.specs.Region.{can_attach, first_gap}
use Rattle.own_model.proofs.HeapGapLemmas.{first_gap_stands}
use Rattle.own_model.proofs.RegionLemmas.{place}
use Rattle.region_map.specs.declared.row.RegionRow.{RegionRow}
use Rattle.region_map.specs.KnownRows.{IsCloseAt, AreKnown}
use Rattle.region_map.specs.RegionRows.{region_of, tag_of, map_of, gap_from, IsTable}
use Rattle.region_map.specs.Window.{Window, window_with}
use Rattle.region_map.proofs.ApartLemmas.{is_window}
use Rattle.region_map.proofs.GapLemmas.{low_small, first_gap-rows}
use Rattle.region_map.proofs.KnownLemmas.{count_within}
use Rattle.region_map.proofs.RowLemmas.{len-map_of}
use Rattle.region_map.proofs.TableLemmas.{AddedAt, added_at}
use Rattle.region_map.proofs.table.RegionTable.attach.Goals.{After-several_of-self-inside, In_ok-start, After-insert}
use Rattle.region_map.proofs.table.RegionTable.attach.Goals as goal

-- the walk was for so many pages
is_gap : (low high size pages : ℕ) (rows : List RegionRow) (o : Option ℕ) → IsTable low high rows → size ≡ pages → o ≡ gap_from low high rows size → o ≡ first_gap low high (map_of region_of rows) pages
is_gap low high size pages rows o is same found = found ∙ ap (gap_from low high rows) same ∙ first_gap-rows low high pages rows is

-- the pages can stand in the gap
stands : (low high size pages address : ℕ) (rows : List RegionRow) (o : Option ℕ) → IsTable low high rows → size ≡ pages → o ≡ gap_from low high rows size → o ≡ Some address → can_attach low high (map_of region_of rows) pages address ≡ true
stands low high size pages address rows o is same found some = first_gap_stands low high (map_of region_of rows) pages address (sym (is_gap low high size pages rows o is same found) ∙ some)

pub raised-known-requires-clause-small : goal.raised-known-requires-clause-small
raised-known-requires-clause-small c = low_small c.self.inside.low c.self.inside.high c.self.inside.rows.items c.self.invariant.table

pub raised-known-requires-clause-known : goal.raised-known-requires-clause-known
raised-known-requires-clause-known c = c.of.ensures.known c.self.inside.low c.self.inside.rows.items c.self.invariant.single_known c.self.invariant.several_known

pub gap-requires-clause-small : goal.gap-requires-clause-small
gap-requires-clause-small c = low_small c.self.inside.low c.self.inside.high c.self.inside.rows.items c.self.invariant.table

-- what is known stays known of one size, or is that of the walk
single : (c : After-several_of-self-inside) → AreKnown c.self.inside.low c.single_of-self-inside.result c.self.inside.rows.items
single c = c.single_of-self-inside.ensures.known c.self.inside.low c.self.inside.rows.items c.self.invariant.single_known c.raised-known.ensures.known

several : (c : After-several_of-self-inside) → AreKnown c.self.inside.low c.several_of-self-inside.result c.self.inside.rows.items
several c = c.several_of-self-inside.ensures.known c.self.inside.low c.self.inside.rows.items c.self.invariant.several_known c.raised-known.ensures.known

-- ---- no gap

pub invariant_of-self : goal.invariant_of-self
invariant_of-self c =
    let at = (goal.at.invariant_of-self c).After-several_of-self-inside in
    record { table = c.self.invariant.table; one = c.single_of-self-inside.ensures.one; single_known = single at; several_known = several at; few = c.self.invariant.few }

pub returns-in_err-start-clause-gap : goal.returns-in_err-start-clause-gap
returns-in_err-start-clause-gap c =
    rw (← c.self.view_is)
    (c.from_residual.ensures ∙ sym c.in_err-start.was ∙ is_gap c.self.inside.low c.self.inside.high _ c.args.pages c.self.inside.rows.items _ c.self.invariant.table (c.raised-known.ensures.pages ∙ c.of.ensures.pages) c.gap.ensures.first)

pub returns-in_err-start-clause-sound : goal.returns-in_err-start-clause-sound
returns-in_err-start-clause-sound c = is_window c.self.inside.low c.self.inside.high c.self.inside.rows.capacity c.self.inside.rows.items c.self.invariant.table

-- ---- a gap

can : (c : In_ok-start) → can_attach c.self.inside.low c.self.inside.high (map_of region_of c.self.inside.rows.items) c.args.pages c.in_ok-start.start ≡ true
can c = stands c.self.inside.low c.self.inside.high _ c.args.pages c.in_ok-start.start c.self.inside.rows.items _ c.self.invariant.table (c.raised-known.ensures.pages ∙ c.of.ensures.pages) c.gap.ensures.first c.in_ok-start.was

pub invariant_of-row : goal.invariant_of-row
invariant_of-row c =
    let at = place c.self.inside.low c.self.inside.high (map_of region_of c.self.inside.rows.items) c.args.pages c.in_ok-start.start (can (goal.at.invariant_of-row c).In_ok-start) in
    let end = at.to_high in
    let small = c.self.invariant.table.small in
    record { aligned = at.aligned; some = c.requires.some; fits = omega arith }

-- a count that a test leaves below
below : (most count n : ℕ) → nat_le most count ≡ false → count ≡ n → n < most
below most count n more same = grind (arith, nat_tests)

-- there is room
room : (c : In_ok-start) → length c.self.inside.rows.items < c.self.inside.rows.capacity
room c =
    below _ _ _
    (subst (λ (w : Window). nat_le w.most (len w.regions) ≡ false) (sym c.self.view_is) c.requires.room)
    (len-map_of region_of c.self.inside.low c.self.inside.high c.self.inside.rows.items c.self.invariant.table.in_order)

pub insert-requires-clause-there : goal.insert-requires-clause-there
insert-requires-clause-there c = count_within _ _ _ c.raised-known.ensures.known

pub insert-requires-clause-room : goal.insert-requires-clause-room
insert-requires-clause-room c = room (goal.at.insert-requires-clause-room c).In_ok-start

pub insert-requires-clause-small : goal.insert-requires-clause-small
insert-requires-clause-small c =
    let at = place c.self.inside.low c.self.inside.high (map_of region_of c.self.inside.rows.items) c.args.pages c.in_ok-start.start (can (goal.at.insert-requires-clause-small c).In_ok-start) in
    let end = at.to_high in
    let small = c.self.invariant.table.small in
    omega arith

facts : (c : After-insert) → AddedAt c.self.inside.low c.self.inside.high c.self.inside.rows.items c.insert.new.self.items c.raised-known.result.count c.in_ok-start.start c.args.pages c.args.ds.0 c.args.tag
facts c =
    let same = c.raised-known.ensures.pages ∙ c.of.ensures.pages in
    let rows = c.self.inside.rows.items in
    let count = c.raised-known.result.count in
    let far = subst (λ n. count < length rows → ¬ IsCloseAt c.self.inside.low n count rows) same c.raised-known.ensures.gap in
    added_at c.self.inside.low c.self.inside.high count rows c.insert.new.self.items _ c.self.invariant.table (count_within _ _ _ c.raised-known.ensures.known) far c.in_ok-start.ensures.place
    (stands c.self.inside.low c.self.inside.high _ c.args.pages c.in_ok-start.start rows _ c.self.invariant.table same c.gap.ensures.first c.in_ok-start.was)
    c.insert.ensures.items

pub with_row-self-inside-requires-clause-short : goal.with_row-self-inside-requires-clause-short
with_row-self-inside-requires-clause-short c =
    let at = goal.at.with_row-self-inside-requires-clause-short c in
    omega (arith, (single at.After-several_of-self-inside).within, room at.In_ok-start, c.self.invariant.few)

pub with_row-self-inside-requires-clause-small : goal.with_row-self-inside-requires-clause-small
with_row-self-inside-requires-clause-small c = low_small c.self.inside.low c.self.inside.high c.self.inside.rows.items c.self.invariant.table

pub with_row-self-inside-requires-clause-known : goal.with_row-self-inside-requires-clause-known
with_row-self-inside-requires-clause-known c =
    let at = goal.at.with_row-self-inside-requires-clause-known c in
    (facts at.After-insert).inserted _ (single at.After-several_of-self-inside)

pub with_row-self-inside-requires-2-clause-short : goal.with_row-self-inside-requires-2-clause-short
with_row-self-inside-requires-2-clause-short c =
    let at = goal.at.with_row-self-inside-requires-2-clause-short c in
    omega (arith, (several at.After-several_of-self-inside).within, room at.In_ok-start, c.self.invariant.few)

pub with_row-self-inside-requires-2-clause-small : goal.with_row-self-inside-requires-2-clause-small
with_row-self-inside-requires-2-clause-small c = low_small c.self.inside.low c.self.inside.high c.self.inside.rows.items c.self.invariant.table

pub with_row-self-inside-requires-2-clause-known : goal.with_row-self-inside-requires-2-clause-known
with_row-self-inside-requires-2-clause-known c =
    let at = goal.at.with_row-self-inside-requires-2-clause-known c in
    (facts at.After-insert).inserted _ (several at.After-several_of-self-inside)

pub invariant_of-self-2 : goal.invariant_of-self-2
invariant_of-self-2 c = record {
  table = (facts (goal.at.invariant_of-self-2 c).After-insert).table;
  one = rw c.with_row-self-inside.ensures.pages c.single_of-self-inside.ensures.one;
  single_known = c.with_row-self-inside.ensures.known;
  several_known = c.with_row-self-inside-2.ensures.known;
  few = rw c.insert.ensures.capacity c.self.invariant.few;
}

pub returns-clause-gap : goal.returns-clause-gap
returns-clause-gap c =
    rw (← c.self.view_is)
    (sym c.in_ok-start.was ∙ is_gap c.self.inside.low c.self.inside.high _ c.args.pages c.self.inside.rows.items _ c.self.invariant.table (c.raised-known.ensures.pages ∙ c.of.ensures.pages) c.gap.ensures.first)

pub returns-clause-added : goal.returns-clause-added
returns-clause-added c =
    let is = facts (goal.at.returns-clause-added c).After-insert in
    subst
    (λ (w : Window). record { low = c.self.inside.low; high = c.self.inside.high; regions = map_of region_of c.insert.new.self.items; tags = map_of tag_of c.insert.new.self.items; most = c.insert.new.self.capacity } ≡ window_with w c.args.ds.0 c.args.pages c.args.tag c.in_ok-start.start)
    c.self.view_is
    (λ i. record { low = c.self.inside.low; high = c.self.inside.high; regions = is.regions i; tags = is.tags i; most = c.insert.ensures.capacity i })

pub returns-clause-free : goal.returns-clause-free
returns-clause-free c = rw (← c.self.view_is) (facts (goal.at.returns-clause-free c).After-insert).free

pub returns-clause-sound : goal.returns-clause-sound
returns-clause-sound c = is_window c.self.inside.low c.self.inside.high c.insert.new.self.capacity c.insert.new.self.items (facts (goal.at.returns-clause-sound c).After-insert).table
