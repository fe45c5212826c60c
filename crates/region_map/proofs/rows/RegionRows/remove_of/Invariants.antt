-- The rows from this one on are of other dataspaces, and all rows of others are there.
use Rattle.std.proofs.Common.{◌≡◌, ◌≤◌, ◌==◌, not, drop, length}
use Rattle.std.specs.List.{filter}
use Rattle.region_map.specs.declared.row.RegionRow.{RegionRow}
use Rattle.region_map.proofs.rows.RegionRows.remove_of.Given as goal

abbrev pub invariant-loop-at : goal.invariant-loop-at
invariant-loop-at l = record {
  within : l.at ≤ length l.self.items;
  behind : filter (λ (row : RegionRow). not (row.ds.0 == l.ds.0)) (drop l.at l.self.items) ≡ drop l.at l.self.items;
  others : filter (λ (row : RegionRow). not (row.ds.0 == l.ds.0)) l.self.items ≡ filter (λ (row : RegionRow). not (row.ds.0 == l.ds.0)) l.initial.self.items;
  capacity : l.self.capacity ≡ l.initial.self.capacity;
}

abbrev pub decreases-loop-at : goal.decreases-loop-at
decreases-loop-at l = l.at
