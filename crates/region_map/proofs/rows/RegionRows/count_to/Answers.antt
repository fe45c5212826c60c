-- The places rise as the rows do.
use Rattle.std.proofs.Common.{sym, subst}
use Rattle.std.specs.List.Sorted.{IsNonDecreasingBy}
use Rattle.region_map.specs.declared.row.RegionRow.{RegionRow}
use Rattle.region_map.specs.Places.{RowList}
use Rattle.region_map.proofs.PlaceLemmas.{starts_rise}
use Rattle.region_map.proofs.rows.RegionRows.count_to.Goals as goal

pub count_to-requires : goal.count_to-requires
count_to-requires c =
    rw c.deref.ensures.value
    (starts_rise c.self.inside.kept.items c.self.inside.places.items (subst (λ (r : RowList). IsNonDecreasingBy (λ (row : RegionRow). row.start) r.items) (sym c.self.view_is) c.requires))
