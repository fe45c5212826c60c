-- A row at a place is put in.
use Rattle.std.proofs.Common.{◌≡◌, ℕ, ◌<◌, sym, ap, ◌∙◌, subst, nat_le, true, false, length, arith}
use Rattle.std.proofs.lemmas.Bool.Decides.{nat_tests}
use Rattle.std.specs.FinMap.{len}
use Rattle.std.specs.List.{insert}
use Rattle.own_model.specs.Region.{can_attach}
use Rattle.region_map.specs.RegionRows.{region_of, tag_of, map_of, count_to, IsTable}
use Rattle.region_map.specs.Window.{Window, window_with}
use Rattle.region_map.proofs.ApartLemmas.{is_window}
use Rattle.region_map.proofs.GapLemmas.{low_small}
use Rattle.region_map.proofs.RowLemmas.{len-map_of}
use Rattle.region_map.proofs.SearchLemmas.{rising}
use Rattle.region_map.proofs.TableLemmas.{Added, added}
use Rattle.region_map.proofs.table.RegionTable.put.Goals.{After-insert}
use Rattle.region_map.proofs.table.RegionTable.put.Goals as goal

pub count_to-at-requires : goal.count_to-at-requires
count_to-at-requires c = rising c.self.inside.low c.self.inside.high c.self.inside.rows.items c.self.invariant.table.in_order

-- a count that a test leaves below
below : (most count n : ℕ) → nat_le most count ≡ false → count ≡ n → n < most
below most count n more same = grind (arith, nat_tests)

-- there is room
pub insert-requires-clause-room : goal.insert-requires-clause-room
insert-requires-clause-room c =
    below _ _ _
    (subst (λ (w : Window). nat_le w.most (len w.regions) ≡ false) (sym c.self.view_is) c.requires.room)
    (len-map_of region_of c.self.inside.low c.self.inside.high c.self.inside.rows.items c.self.invariant.table.in_order)

items : (c : After-insert) → c.insert.new.self.items ≡ insert c.self.inside.rows.items (count_to c.args.row.start c.self.inside.rows.items) c.args.row
items c = rw c.count_to-at.ensures.count at c.insert.ensures.items

-- at a place
facts : (c : After-insert) → Added c.self.inside.low c.self.inside.high c.self.inside.rows.items c.args.row
facts c =
    added c.self.inside.low c.self.inside.high c.self.inside.rows.items c.args.row c.self.invariant.table
    (subst (λ (w : Window). can_attach w.low w.high w.regions c.args.row.pages c.args.row.start ≡ true) (sym c.self.view_is) c.requires.place)

is_table : (c : After-insert) → IsTable c.self.inside.low c.self.inside.high c.insert.new.self.items
is_table c = rw (items c) (facts c).table

pub invariant_of-self : goal.invariant_of-self
invariant_of-self c = record {
  table = is_table (goal.at.invariant_of-self c).After-insert;
  single_known = c.with_row-self-inside.ensures.known;
  one = rw c.with_row-self-inside.ensures.pages c.self.invariant.one;
  several_known = c.with_row-self-inside-2.ensures.known;
  few = rw c.insert.ensures.capacity c.self.invariant.few;
}

pub returns-clause-added : goal.returns-clause-added
returns-clause-added c =
    let regions = ap (map_of region_of) (items (goal.at.returns-clause-added c).After-insert) ∙ (facts (goal.at.returns-clause-added c).After-insert).regions in
    let tags = ap (map_of tag_of) (items (goal.at.returns-clause-added c).After-insert) ∙ (facts (goal.at.returns-clause-added c).After-insert).tags in
    subst
    (λ (w : Window). record { low = c.self.inside.low; high = c.self.inside.high; regions = map_of region_of c.insert.new.self.items; tags = map_of tag_of c.insert.new.self.items; most = c.insert.new.self.capacity } ≡ window_with w c.args.row.ds.0 c.args.row.pages c.args.row.tag c.args.row.start)
    c.self.view_is
    (λ i. record { low = c.self.inside.low; high = c.self.inside.high; regions = regions i; tags = tags i; most = c.insert.ensures.capacity i })

pub returns-clause-free : goal.returns-clause-free
returns-clause-free c = rw (← c.self.view_is) (facts (goal.at.returns-clause-free c).After-insert).free

pub returns-clause-sound : goal.returns-clause-sound
returns-clause-sound c = is_window c.self.inside.low c.self.inside.high c.insert.new.self.capacity c.insert.new.self.items (is_table (goal.at.returns-clause-sound c).After-insert)

short : (c : After-insert) → length c.self.inside.rows.items < 4096
short c =
    let room : length c.self.inside.rows.items < c.self.inside.rows.capacity =
    below _ _ _
    (subst (λ (w : Window). nat_le w.most (len w.regions) ≡ false) (sym c.self.view_is) c.requires.room)
    (len-map_of region_of c.self.inside.low c.self.inside.high c.self.inside.rows.items c.self.invariant.table.in_order) in
    omega (arith, c.self.invariant.few)

pub with_row-self-inside-requires-clause-short : goal.with_row-self-inside-requires-clause-short
with_row-self-inside-requires-clause-short c = let within = c.self.invariant.single_known.within in omega (arith, short (goal.at.with_row-self-inside-requires-clause-short c).After-insert)

pub with_row-self-inside-requires-clause-small : goal.with_row-self-inside-requires-clause-small
with_row-self-inside-requires-clause-small c = low_small c.self.inside.low c.self.inside.high c.self.inside.rows.items c.self.invariant.table

pub with_row-self-inside-requires-clause-known : goal.with_row-self-inside-requires-clause-known
with_row-self-inside-requires-clause-known c = record { old = c.self.inside.rows.items; row = c.args.row; high = c.self.inside.high; is = c.insert.ensures.items; there = c.count_to-at.ensures.within; order = (is_table (goal.at.with_row-self-inside-requires-clause-known c).After-insert).in_order; was = c.self.invariant.single_known }

pub with_row-self-inside-requires-2-clause-short : goal.with_row-self-inside-requires-2-clause-short
with_row-self-inside-requires-2-clause-short c = let within = c.self.invariant.several_known.within in omega (arith, short (goal.at.with_row-self-inside-requires-2-clause-short c).After-insert)

pub with_row-self-inside-requires-2-clause-small : goal.with_row-self-inside-requires-2-clause-small
with_row-self-inside-requires-2-clause-small c = low_small c.self.inside.low c.self.inside.high c.self.inside.rows.items c.self.invariant.table

pub with_row-self-inside-requires-2-clause-known : goal.with_row-self-inside-requires-2-clause-known
with_row-self-inside-requires-2-clause-known c = record { old = c.self.inside.rows.items; row = c.args.row; high = c.self.inside.high; is = c.insert.ensures.items; there = c.count_to-at.ensures.within; order = (is_table (goal.at.with_row-self-inside-requires-2-clause-known c).After-insert).in_order; was = c.self.invariant.several_known }
