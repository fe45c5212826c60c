-- The places of nodes' and contents' bytes in the memory.
use Rattle.std.specs.Prelude.{◌≡◌, ◌≢◌, ℕ, ◌+◌, ◌≤◌, length, Some}
use Rattle.std.specs.FinMap.{get}
use Rattle.own_model.specs.Region.{Region}
use Rattle.dataspace_core.specs.Store.{Store, Exists, space_at}
use Rattle.region_map.specs.Regions.{Regions}
use Rattle.heap_core.specs.declared.heap.Heap.{Heap}
use Rattle.heap_core.specs.Calls.{HoldsRange as HoldsInHeap}
use Rattle.sliced_heap.specs.declared.heap.SlicedHeap.{SlicedHeap}
use Rattle.sliced_heap.specs.Heap.{payer_of, share_at, HoldsRange}
use Rattle.sliced_heap.specs.Sliced.{block_regions}
use Rattle.own_model.specs.Sliced.{sliced_header}

-- a dataspace of the memory has so many bytes from an offset on
pub record IsThere (store : Store) (ds offset count : ℕ) : Type 0 where
  pub exists : Exists store ds
  pub within : offset + count ≤ length (space_at store ds).bytes

-- so many bytes of the node whose block's payload starts at an address, so far into it
pub record FindsNode (heap : Heap) (store : Store) (regions : Regions) (ds offset address into count : ℕ) : Type 0 where
  pub held : HoldsInHeap heap store regions ds offset (address + into) count
  pub at : held.at ≡ address
  pub there : IsThere store ds offset count

-- so many bytes of the content that starts at an address, so far into it
pub record FindsContent (sliced : SlicedHeap) (store : Store) (regions : Regions) (ds offset address into count : ℕ) : Type 0 where
  pub held : HoldsRange (share_at (payer_of sliced) store regions) ds offset (address + into) count
  pub at : held.start + sliced_header ≡ address
  pub there : IsThere store ds offset count

-- a dataspace isn't that of the content that starts at an address
abbrev pub IsElsewhere : SlicedHeap → Store → Regions → ℕ → ℕ → Type 0
IsElsewhere sliced store regions source address =
    (start : ℕ) (region : Region) → start + sliced_header ≡ address →
    get (block_regions (share_at (payer_of sliced) store regions)) start ≡ Some region → source ≢ region.of
