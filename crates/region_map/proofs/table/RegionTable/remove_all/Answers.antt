-- The rows of other dataspaces stay.
use Rattle.std.proofs.Common.{◌==◌, not, ap, ◌∙◌, arith}
use Rattle.own_model.specs.Region.{without}
use Rattle.region_map.specs.RegionRows.{region_of, map_of, IsTable}
use Rattle.region_map.specs.Window.{Window}
use Rattle.region_map.proofs.ApartLemmas.{is_window}
use Rattle.region_map.proofs.RowLemmas.{AreInOrder-filter, map_of-others}
use Rattle.region_map.proofs.table.RegionTable.remove_all.Goals as goal

is_table : (c : goal.After-remove_of) → IsTable c.self.inside.low c.self.inside.high c.remove_of.new.self.items
is_table c =
    rw c.remove_of.ensures.items
    (record {
      aligned = c.self.invariant.table.aligned;
      small = c.self.invariant.table.small;
      in_order = AreInOrder-filter (λ row. not (row.ds.0 == c.args.ds.0)) c.self.inside.low c.self.inside.high c.self.inside.rows.items c.self.invariant.table.in_order;
    })

pub invariant_of-self : goal.invariant_of-self
invariant_of-self c = record {
  table = is_table c;
  single_known = c.none-self-inside.ensures.known _ _;
  one = rw c.none-self-inside.ensures.pages (omega arith);
  several_known = c.none-self-inside-2.ensures.known _ _;
  few = rw c.remove_of.ensures.capacity c.self.invariant.few;
}

pub returns-clause-regions : goal.returns-clause-regions
returns-clause-regions c =
    ap (map_of region_of) c.remove_of.ensures.items
    ∙ map_of-others c.args.ds.0 c.self.inside.low c.self.inside.high c.self.inside.rows.items c.self.invariant.table.in_order
    ∙ ap (λ (w : Window). without c.args.ds.0 w.regions) c.self.view_is

pub returns-clause-sound : goal.returns-clause-sound
returns-clause-sound c = is_window c.self.inside.low c.self.inside.high c.remove_of.new.self.capacity c.remove_of.new.self.items (is_table c)
