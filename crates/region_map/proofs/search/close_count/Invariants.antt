-- The rows that were passed and those that are left to pass are all that are passed.
use Rattle.std.proofs.Common.{◌≡◌, ◌+◌, ◌≤◌, ◌^◌, List, drop}
use Rattle.region_map.specs.declared.rows.SlotData.{SlotData}
use Rattle.region_map.specs.Places.{rows_of}
use Rattle.region_map.specs.KnownRows.{close_to}
use Rattle.region_map.proofs.search.close_count.Given as goal

abbrev pub invariant-loop-place : goal.invariant-loop-place
invariant-loop-place l = record {
  small : l.address ≤ 2 ^ 45;
  counted : l.count ≡ l.place-index;
  same : (kept : List SlotData) → l.count + close_to l.address l.pages (rows_of kept (drop l.place-index l.places)) ≡ close_to l.low l.pages (rows_of kept l.places);
}
