-- Two heaps on one map.
use Rattle.std.specs.Prelude.{◌≢◌}
use Rattle.region_map.specs.Regions.{Regions}
use Rattle.dataspace_core.specs.Store.{Store}
use Rattle.heap_core.specs.declared.heap.Heap.{Heap}
use Rattle.heap_core.specs.Heap.{payer_of, IsSound}

-- two heaps of different accounts, on one map
pub record AreBeside (heap other : Heap) (store : Store) (regions : Regions) : Type 0 where
  pub sound : IsSound heap store regions
  pub other_sound : IsSound other store regions
  pub apart : payer_of other ≢ payer_of heap
