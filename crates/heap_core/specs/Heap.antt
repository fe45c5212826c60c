-- What a contract sees of a heap: its blocks, their addresses and contents, as its fields and its account's share state.
use Rattle.std.specs.Prelude.{◌≡◌, ℕ, ◌+◌, ◌*◌, ◌≤◌, ◌<◌, ◌==◌, true, cond, List, [], ◌∷◌, ◌++◌, length, map, Some, is_some, sum_by, slice_index_or, slice_range}
use Rattle.std.specs.FinMap.{get, len, from_entries}
use Rattle.own_model.specs.Growth.{Shape, most_chunks, most_growth}
use Rattle.own_model.specs.Heap as model
use Rattle.own_model.specs.Heap.{Block, Used, Hole, header}
use Rattle.own_model.specs.NatMap.{NatMap, picked, joined}
use Rattle.own_model.specs.OwnHeap.{OwnHeap}
use Rattle.own_model.specs.Region.{Region}
use Rattle.avl_alloc.specs.Layout as avl
use Rattle.avl_alloc.specs.Layout.{heap_of, sizes_of}
use Rattle.region_map.specs.Regions.{Regions}
use Rattle.dataspace_core.specs.Store.{Store, Part, bytes_of, IsOpenIn}
use Rattle.dataspace_core.specs.Share.{Share, share, IsWindowOf}
pub use Rattle.sliced_heap.specs.Window.{share_at, large_tag, is_large_tag, large_regions}
use Rattle.heap_core.specs.declared.words.Chunk.{Chunk}
use Rattle.heap_core.specs.declared.heap.Heap.{Heap}
use Rattle.heap_core.specs.Words.{keys_of, are_bytes, word_in}

-- the key of the account that pays for a heap
abbrev pub payer_of : Heap → ℕ
payer_of heap = heap.account.0

-- ---- the blocks of chunks

-- the dataspaces of the chunks, by their keys
abbrev pub keys_in : Heap → List ℕ
keys_in heap = keys_of heap.chunks.items

-- where the chunks start
abbrev pub starts_in : Heap → List ℕ
starts_in heap = map (λ chunk. chunk.start) heap.chunks.items

-- the word at each place of the chunks
abbrev pub words_in : Heap → Part → ℕ → ℕ
words_in heap part = word_in (keys_in heap) (bytes_of part)

-- the blocks, and the growth number
abbrev pub shape_in : Heap → Part → Shape
shape_in heap part = record { chunks = heap_of heap.fit (words_in heap part); growth = heap.growth }

-- the payloads of used blocks from an offset of these bytes on, which begin at an address: each with its address
abbrev pub payloads_from : ℕ → ℕ → List ℕ → List Block → List (ℕ × List ℕ)
payloads_from start offset bytes [] = []
payloads_from start offset bytes (Used n ∷ rest) =
    (start + offset + header, slice_range bytes (offset + header) (offset + n)) ∷ payloads_from start (offset + n) bytes rest
payloads_from start offset bytes (Hole n ∷ rest) = payloads_from start (offset + n) bytes rest

-- the payloads of chunks with these blocks
abbrev pub payloads_of : Part → List Chunk → model.Heap → List (ℕ × List ℕ)
payloads_of part [] heap = []
payloads_of part (chunk ∷ chunks) [] = []
payloads_of part (chunk ∷ chunks) (blocks ∷ heap) =
    payloads_from chunk.start 0 (bytes_of part chunk.ds.0) blocks ++ payloads_of part chunks heap

-- ---- large blocks

-- the bytes of the dataspaces that regions show
abbrev pub bytes_shown : NatMap (List ℕ) → NatMap Region → NatMap (List ℕ)
bytes_shown spaces regions = picked (λ region. get spaces region.of) regions

-- ---- the whole heap

-- the heap of a script, as its account's share holds it
unfoldable pub heap_in : Heap → Share → OwnHeap
heap_in heap share = record {
  shape = shape_in heap share.part;
  starts = starts_in heap;
  large = picked (λ region. Some (region.pages * 4096)) (large_regions share);
  payloads = joined (from_entries (payloads_of share.part heap.chunks.items (shape_in heap share.part).chunks)) (bytes_shown share.part.spaces (large_regions share));
}

-- the same in a memory and a map
abbrev pub heap_at : Heap → Store → Regions → OwnHeap
heap_at heap store regions = heap_in heap (share_at (payer_of heap) store regions)

-- ---- what is true of it between calls

-- the chunk of a number, or one of nothing
abbrev pub chunk_at : Heap → ℕ → Chunk
chunk_at heap number = slice_index_or heap.chunks.items number (record { ds = record { 0 = 0 }; start = 0 })

-- a chunk of this number is in the heap window: whole pages of a dataspace of the account, in a region that keeps the number
pub record IsChunkAt (share : Share) (chunk : Chunk) (number size : ℕ) : Type 0 where
  pub bytes : List ℕ
  pub pages : ℕ
  pub there : get share.part.spaces chunk.ds.0 ≡ Some bytes
  pub numbers : are_bytes bytes ≡ true
  pub long : length bytes ≡ size
  pub some : 1 ≤ pages
  pub whole : size ≡ pages * 4096
  pub region : get share.heap chunk.start ≡ Some (record { of = chunk.ds.0; pages = pages })
  pub tag : get share.tags chunk.start ≡ Some number

-- a large block is there: as many bytes as its region has pages, and no fewer than the least
pub record IsLargeAt (share : Share) (region : Region) : Type 0 where
  pub bytes : List ℕ
  pub there : get share.part.spaces region.of ≡ Some bytes
  pub whole : length bytes ≡ region.pages * 4096
  pub least : 16 ≤ region.pages

-- no region of the share keeps a number of a heap's regions
abbrev pub HasNoBlocks : Share → Type 0
HasNoBlocks share = (start k : ℕ) (region : Region) → get share.heap start ≡ Some region → get share.tags start ≡ Some k → large_tag < k

-- how often a number comes in a list
abbrev pub times_in : List ℕ → ℕ → ℕ
times_in numbers n = sum_by (λ x. cond (x == n) 1 0) numbers

-- each region of a large block is one
abbrev pub HasLargeBlocks : Share → Type 0
HasLargeBlocks share = (start : ℕ) (region : Region) → get (large_regions share) start ≡ Some region → IsLargeAt share region

-- a heap's chunks and large blocks are in its account's share, and no other region keeps such a number
pub record IsLaid (heap : Heap) (share : Share) : Type 0 where
  pub fit : avl.IsSound heap.fit (words_in heap share.part)
  pub count : length (sizes_of heap.fit) ≡ length heap.chunks.items
  pub few : length heap.chunks.items ≤ most_chunks
  pub chunks : (k : ℕ) → k < length heap.chunks.items → IsChunkAt share (chunk_at heap k) k (avl.bytes_of heap.fit k)
  pub all : (start k : ℕ) (region : Region) → get share.heap start ≡ Some region → get share.tags start ≡ Some k → k < large_tag → (k < length heap.chunks.items) × ((chunk_at heap k).start ≡ start)
  pub large : (start : ℕ) → times_in heap.large.items start ≡ cond (is_some (get (large_regions share) start)) 1 0
  pub large_count : length heap.large.items ≡ len (large_regions share)
  pub large_stands : HasLargeBlocks share
  pub growth_some : 1 ≤ heap.growth
  pub growth_most : heap.growth ≤ most_growth

-- its account is open, the map is one of the memory, and its blocks are there
pub record IsSound (heap : Heap) (store : Store) (regions : Regions) : Type 0 where
  pub opens : IsOpenIn store (payer_of heap)
  pub window : IsWindowOf store regions.pages regions.heap_most regions.heap
  pub laid : IsLaid heap (share_at (payer_of heap) store regions)
