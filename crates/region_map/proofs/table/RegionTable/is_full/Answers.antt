-- There are as many regions as rows.
use Rattle.std.proofs.Common.{nat_le, sym, ap, ◌∙◌}
use Rattle.region_map.specs.RegionRows.{region_of}
use Rattle.region_map.proofs.RowLemmas.{len-map_of}
use Rattle.region_map.proofs.table.RegionTable.is_full.Goals as goal

pub returns : goal.returns
returns c =
    rw (← c.self.view_is) (c.is_full.ensures ∙ ap (nat_le c.self.inside.rows.capacity) (sym (len-map_of region_of c.self.inside.low c.self.inside.high c.self.inside.rows.items c.self.invariant.table.in_order)))
