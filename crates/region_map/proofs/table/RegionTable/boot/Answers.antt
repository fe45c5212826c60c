-- No rows are an empty window.
use Rattle.std.proofs.Common.{◌≡◌, List, [], sym, ap, ◌∙◌, subst, arith}
use Rattle.region_map.specs.declared.row.RegionRow.{RegionRow}
use Rattle.region_map.specs.RegionRows.{region_of, tag_of, map_of, IsTable}
use Rattle.region_map.proofs.ApartLemmas.{is_window}
use Rattle.region_map.proofs.TableLemmas.{map_of-none, IsTable-none}
use Rattle.region_map.proofs.table.RegionTable.boot.Goals.{In_ok-rows}
use Rattle.region_map.proofs.table.RegionTable.boot.Goals as goal

no_rows : (c : In_ok-rows) → c.in_ok-rows.rows.items ≡ []
no_rows c = c.in_ok-rows.ensures.none

is_table : (c : In_ok-rows) → IsTable c.args.low c.args.high c.in_ok-rows.rows.items
is_table c = subst (λ (rows : List RegionRow). IsTable c.args.low c.args.high rows) (sym (no_rows c)) (IsTable-none c.args.low c.args.high c.requires.aligned c.requires.within c.requires.small)

pub invariant_of-result : goal.invariant_of-result
invariant_of-result c = record {
  table = is_table (goal.at.invariant_of-result c).In_ok-rows;
  single_known = c.none.ensures.known _ _;
  one = rw c.none.ensures.pages (omega arith);
  several_known = c.none-2.ensures.known _ _;
  few = rw c.in_ok-rows.ensures.room c.requires.few;
}

pub returns-clause-fresh : goal.returns-clause-fresh
returns-clause-fresh c =
    let regions = ap (map_of region_of) (no_rows (goal.at.returns-clause-fresh c).In_ok-rows) ∙ map_of-none region_of in
    let tags = ap (map_of tag_of) (no_rows (goal.at.returns-clause-fresh c).In_ok-rows) ∙ map_of-none tag_of in
    λ i. record { low = c.args.low; high = c.args.high; regions = regions i; tags = tags i; most = c.in_ok-rows.ensures.room i }

pub returns-clause-sound : goal.returns-clause-sound
returns-clause-sound c = is_window c.args.low c.args.high c.in_ok-rows.rows.capacity c.in_ok-rows.rows.items (is_table (goal.at.returns-clause-sound c).In_ok-rows)
