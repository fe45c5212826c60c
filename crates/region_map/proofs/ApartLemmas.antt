-- Regions of rows in order lie apart in their window.
use Rattle.std.proofs.Common.{ℕ, ◌≤◌, List, [], ◌∷◌, refl, arith}
use Rattle.own_model.specs.NatMap.{NatMap}
use Rattle.own_model.specs.Region.{Region}
use Rattle.own_model.specs.Sound.{LieApart}
use Rattle.own_model.proofs.RegionApartLemmas.{LieApart-empty, LieApart-insert}
use Rattle.own_model.proofs.HeapGapLemmas.{ends_before}
use Rattle.region_map.specs.declared.row.RegionRow.{RegionRow}
use Rattle.region_map.specs.RegionRows.{region_of, tag_of, end_of, map_of, AreInOrder, IsTable}
use Rattle.region_map.specs.Window.{IsWindow}
use Rattle.region_map.proofs.GapLemmas.{ends}
use Rattle.region_map.proofs.SearchLemmas.{same_starts}

-- what lies apart in a window does so in one that starts earlier
from_lower : (lower low high : ℕ) (regions : NatMap Region) → lower ≤ low → LieApart low high regions → LieApart lower high regions
from_lower lower low high regions less lie = record {
  some = lie.some;
  within = λ start region there.
      let at = lie.within start region there in
      let from = at.from_low in
      record { aligned = at.aligned; from_low = omega arith; to_high = at.to_high };
  apart = lie.apart;
}

-- the regions of rows in order lie apart
lie : (low high : ℕ) (rows : List RegionRow) → AreInOrder low high rows → LieApart low high (map_of region_of rows)
unfolding map_of
lie low high [] is = LieApart-empty low high (map_of region_of []) (λ start. refl)
lie low high (row ∷ rows) is =
    let rest = lie (end_of row) high rows is.1 in
    let from = is.0 in
    LieApart-insert low high (map_of region_of rows) row.start (region_of row) row.some
    (record {
      aligned = row.aligned;
      from_low = from;
      to_high = ends (end_of row) high rows is.1;
      free = λ start region there. ends_before start region.pages row.start row.pages (rest.within start region there).from_low;
    })
    (from_lower low (end_of row) high (map_of region_of rows) (omega arith) rest)

-- so a table's window is sound, whatever number of regions it can have
pub is_window : (low high most : ℕ) (rows : List RegionRow) → IsTable low high rows → IsWindow (record { low = low; high = high; regions = map_of region_of rows; tags = map_of tag_of rows; most = most })
is_window low high most rows is = record { lie = lie low high rows is.in_order; tagged = λ start. same_starts tag_of region_of rows start; small = is.small }
