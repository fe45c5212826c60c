-- Which block of a heap an address lies in.
use Rattle.std.specs.Prelude.{◌≡◌, ℕ, ◌+◌, ◌*◌, ◌≤◌, ◌<◌, ◌⊎◌, length, Some}
use Rattle.std.specs.FinMap.{get}
use Rattle.own_model.specs.Region.{Region}
use Rattle.avl_alloc.specs.Layout as avl
use Rattle.dataspace_core.specs.Share.{Share}
use Rattle.heap_core.specs.declared.heap.Heap.{Heap}
use Rattle.heap_core.specs.declared.lookup.HeapLocation.{HeapLocation}
use Rattle.heap_core.specs.declared.lookup.HeapLocation.TheVariants.{InChunk, InLarge}
use Rattle.heap_core.specs.Heap.{chunk_at, large_regions}

-- it lies in a chunk, at an offset
pub record LiesInChunk (heap : Heap) (address chunk offset : ℕ) : Type 0 where
  pub there : chunk < length heap.chunks.items
  pub at : (chunk_at heap chunk).start + offset ≡ address
  pub inside : offset < avl.bytes_of heap.fit chunk

-- it lies in a large block, which starts at an address and is a dataspace
pub record LiesInLarge (share : Share) (address start ds : ℕ) : Type 0 where
  pub pages : ℕ
  pub region : get (large_regions share) start ≡ Some (record { of = ds; pages = pages })
  pub low : start ≤ address
  pub high : address < start + pages * 4096

-- it lies where a site says
abbrev pub LiesAt : Heap → Share → ℕ → HeapLocation → Type 0
LiesAt heap share address (InChunk at) = LiesInChunk heap address at.chunk at.offset
LiesAt heap share address (InLarge block) = LiesInLarge share address block.start block.ds.0

-- it lies in none of a heap's chunks and large blocks
pub record LiesOutside (heap : Heap) (share : Share) (address : ℕ) : Type 0 where
  pub chunks : (k : ℕ) → k < length heap.chunks.items → (address < (chunk_at heap k).start) ⊎ ((chunk_at heap k).start + avl.bytes_of heap.fit k ≤ address)
  pub large : (s : ℕ) (r : Region) → get (large_regions share) s ≡ Some r → (address < s) ⊎ (s + r.pages * 4096 ≤ address)
