-- What a heap's calls do to a used block on their way.
use Rattle.std.specs.Prelude.{◌≡◌, ℕ, ◌<◌, length, Some}
use Rattle.std.specs.FinMap.{insert}
use Rattle.own_model.specs.BestFit.{used_at, chunk_of}
use Rattle.own_model.specs.OwnState.{zeros}
use Rattle.avl_alloc.specs.declared.best_fit.BlockAddr.{BlockAddr}
use Rattle.region_map.specs.Regions.{Regions}
use Rattle.dataspace_core.specs.Store.{Store}
use Rattle.heap_core.specs.declared.heap.Heap.{Heap}
use Rattle.heap_core.specs.Calls.{part_at}
use Rattle.heap_core.specs.Heap.{heap_at, shape_in}

-- a used block of n bytes starts at an address of a chunk
pub record IsUsed (heap : Heap) (store : Store) (block : BlockAddr) (n : ℕ) : Type 0 where
  pub chunk : block.chunk < length heap.chunks.items
  pub used : used_at block.offset (chunk_of (shape_in heap (part_at heap store)).chunks block.chunk) ≡ Some n

-- the payload of n bytes at an address is all zero then, and the heap is else as it was
pub record Clears (heap : Heap) (address n : ℕ) (old new : Store) (regions : Regions) : Type 0 where
  pub value : heap_at heap new regions ≡ record (heap_at heap old regions) { payloads = insert (heap_at heap old regions).payloads address (zeros n) }
