-- The last row up to the address is taken out, where it starts there.
use Rattle.std.proofs.Common.{◌≡◌, ◌≢◌, ℕ, ◌-◌, ◌<◌, ◌≤◌, suc, sym, ap, ◌∙◌, subst, arith}
use Rattle.std.proofs.lemmas.Option.{none-some, same_Some}
use Rattle.std.specs.Prelude.{is_some, None, Some}
use Rattle.region_map.specs.declared.row.RegionRow.{RegionRow}
use Rattle.region_map.specs.RegionRows.{region_of, tag_of, map_of, last_to, IsTable}
use Rattle.region_map.specs.Window.{Window, IsWindow, window_without}
use Rattle.region_map.proofs.ApartLemmas.{is_window}
use Rattle.region_map.proofs.GapLemmas.{low_small}
use Rattle.region_map.proofs.SearchLemmas.{rising, last_of_none, last_of_some, get_nothing}
use Rattle.region_map.proofs.TableLemmas.{Removed, removed}
use Rattle.region_map.proofs.table.RegionTable.remove.Goals.{After-remove}
use Rattle.region_map.proofs.table.RegionTable.remove.Goals as goal

pub count_to-count-requires : goal.count_to-count-requires
count_to-count-requires c = rising c.self.inside.low c.self.inside.high c.self.inside.rows.items c.self.invariant.table.in_order

-- no row starts at the address or before
pub returns-then-count-eq0-clause-found : goal.returns-then-count-eq0-clause-found
returns-then-count-eq0-clause-found c =
    let none : last_to c.args.address c.self.inside.rows.items ≡ None = last_of_none c.args.address c.self.inside.rows.items (sym c.count_to-count.ensures.count ∙ c.if-count-eq0.true) in
    rw (← c.self.view_is)
    (sym (ap is_some (get_nothing region_of c.args.address c.self.inside.low c.self.inside.high c.self.inside.rows.items c.self.invariant.table.in_order (λ row last. absurd (none-some row (sym none ∙ last))))))

pub returns-then-count-eq0-clause-sound : goal.returns-then-count-eq0-clause-sound
returns-then-count-eq0-clause-sound c = subst IsWindow c.self.view_is (is_window c.self.inside.low c.self.inside.high c.self.inside.rows.capacity c.self.inside.rows.items c.self.invariant.table)

-- the last of those that do starts before it
pub returns-then-row-address-clause-found : goal.returns-then-row-address-clause-found
returns-then-row-address-clause-found c =
    let more : c.count_to-count.result ≡ suc (c.count_to-count.result - 1) = omega arith in
    let is_last : last_to c.args.address c.self.inside.rows.items ≡ Some c.row-row.result = last_of_some c.args.address (c.count_to-count.result - 1) c.self.inside.rows.items c.row-row.result (sym c.count_to-count.ensures.count ∙ more) c.row-row.ensures in
    rw (← c.self.view_is)
    (sym (ap is_some (get_nothing region_of c.args.address c.self.inside.low c.self.inside.high c.self.inside.rows.items c.self.invariant.table.in_order (λ row last starts. c.if-row-address.true (ap (λ (x : RegionRow). x.start) (same_Some c.row-row.result row (sym is_last ∙ last)) ∙ starts)))))

pub returns-then-row-address-clause-sound : goal.returns-then-row-address-clause-sound
returns-then-row-address-clause-sound c = subst IsWindow c.self.view_is (is_window c.self.inside.low c.self.inside.high c.self.inside.rows.capacity c.self.inside.rows.items c.self.invariant.table)

-- it starts there
bound : (count all : ℕ) → count ≤ all → count ≢ 0 → count - 1 < all
bound count all within some = omega arith

facts : (c : After-remove) → Removed c.self.inside.low c.self.inside.high c.self.inside.rows.items (c.count_to-count.result - 1) c.args.address
facts c = removed c.self.inside.low c.self.inside.high c.self.inside.rows.items (c.count_to-count.result - 1) c.row-row.result c.args.address c.self.invariant.table (bound _ _ c.count_to-count.ensures.within c.if-count-eq0.false) c.row-row.ensures c.if-row-address.false

is_table : (c : After-remove) → IsTable c.self.inside.low c.self.inside.high c.remove.new.self.items
is_table c = rw c.remove.ensures.items (facts c).table

pub invariant_of-self : goal.invariant_of-self
invariant_of-self c = record {
  table = is_table (goal.at.invariant_of-self c).After-remove;
  single_known = c.without_row-self-inside.ensures.known;
  one = rw c.without_row-self-inside.ensures.pages c.self.invariant.one;
  several_known = c.without_row-self-inside-2.ensures.known;
  few = rw c.remove.ensures.capacity c.self.invariant.few;
}

pub without_row-self-inside-requires-clause-small : goal.without_row-self-inside-requires-clause-small
without_row-self-inside-requires-clause-small c = low_small c.self.inside.low c.self.inside.high c.self.inside.rows.items c.self.invariant.table

pub without_row-self-inside-requires-clause-known : goal.without_row-self-inside-requires-clause-known
without_row-self-inside-requires-clause-known c = record { old = c.self.inside.rows.items; is = c.remove.ensures.items; there = bound _ _ c.count_to-count.ensures.within c.if-count-eq0.false; was = c.self.invariant.single_known }

pub without_row-self-inside-requires-2-clause-small : goal.without_row-self-inside-requires-2-clause-small
without_row-self-inside-requires-2-clause-small c = low_small c.self.inside.low c.self.inside.high c.self.inside.rows.items c.self.invariant.table

pub without_row-self-inside-requires-2-clause-known : goal.without_row-self-inside-requires-2-clause-known
without_row-self-inside-requires-2-clause-known c = record { old = c.self.inside.rows.items; is = c.remove.ensures.items; there = bound _ _ c.count_to-count.ensures.within c.if-count-eq0.false; was = c.self.invariant.several_known }

pub returns-clause-found : goal.returns-clause-found
returns-clause-found c = rw (← c.self.view_is) (sym (facts (goal.at.returns-clause-found c).After-remove).there)

pub returns-clause-removed : goal.returns-clause-removed
returns-clause-removed c =
    let regions = ap (map_of region_of) c.remove.ensures.items ∙ (facts (goal.at.returns-clause-removed c).After-remove).regions in
    let tags = ap (map_of tag_of) c.remove.ensures.items ∙ (facts (goal.at.returns-clause-removed c).After-remove).tags in
    subst
    (λ (w : Window). record { low = c.self.inside.low; high = c.self.inside.high; regions = map_of region_of c.remove.new.self.items; tags = map_of tag_of c.remove.new.self.items; most = c.remove.new.self.capacity } ≡ window_without w c.args.address)
    c.self.view_is
    (λ i. record { low = c.self.inside.low; high = c.self.inside.high; regions = regions i; tags = tags i; most = c.remove.ensures.capacity i })

pub returns-clause-sound : goal.returns-clause-sound
returns-clause-sound c = is_window c.self.inside.low c.self.inside.high c.remove.new.self.capacity c.remove.new.self.items (is_table (goal.at.returns-clause-sound c).After-remove)
