-- What is true of every own state: of what has bytes, of its regions and of what is in the heap window.
use Rattle.std.specs.Prelude.{◌≡◌, ◌≢◌, ℕ, ◌+◌, ◌*◌, ◌%◌, ◌≤◌, true, false, List, length, Some, None, IsSome}
use Rattle.std.specs.FinMap.{get, len, from_entries}
use Rattle.std.specs.List.{AllByRecursion}
use Rattle.own_model.specs.HeapWindow.{heap_low, heap_high, largest_machine}
use Rattle.own_model.specs.Growth.{most_chunks, least_large}
use Rattle.own_model.specs.Entries.{KeysDiffer}
use Rattle.own_model.specs.Heap.{ArePages, IsChunk}
use Rattle.own_model.specs.HeapStep.{payload_size}
use Rattle.std.specs.Option.{option_map}
use Rattle.own_model.specs.NatMap.{NatMap}
use Rattle.own_model.specs.OwnHeap.{OwnHeap, chunk_ranges, ranges_of_large, ranges_of_heap}
use Rattle.own_model.specs.OwnState.{OwnState, Object, named_bytes, session_named, is_buffer_of, pages_in, heap_ranges}
use Rattle.own_model.specs.Region.{Region, user_low, user_high, most_regions, overlap}
use Rattle.own_model.specs.Sliced.{sliced_header, block_size, block_pages, ranges_of_blocks}

-- the bytes are whole pages, and at least one
pub record IsPages (bytes : List ℕ) : Type 0 where
  pub some : 1 ≤ pages_in bytes
  pub whole : length bytes ≡ pages_in bytes * 4096

-- a region's selector names bytes, of as many pages as the region
pub record NamesBytes (selectors : NatMap Object) (region : Region) : Type 0 where
  pub bytes : List ℕ
  pub there : named_bytes (get selectors region.of) ≡ Some bytes
  pub pages : region.pages ≡ pages_in bytes

-- so many pages from an address on are pages of a window
pub record IsInWindow (low high address pages : ℕ) : Type 0 where
  pub aligned : address % 4096 ≡ 0
  pub from_low : low ≤ address
  pub to_high : address + pages * 4096 ≤ high

-- each region has a page and lies within the window, and no two overlap
pub record LieApart (low high : ℕ) (regions : NatMap Region) : Type 0 where
  pub some : (start : ℕ) (region : Region) → get regions start ≡ Some region → 1 ≤ region.pages
  pub within : (start : ℕ) (region : Region) → get regions start ≡ Some region → IsInWindow low high start region.pages
  pub apart : (a b : ℕ) (r q : Region) → get regions a ≡ Some r → get regions b ≡ Some q → a ≢ b → overlap a r.pages b q.pages ≡ false

-- a block with this payload fills whole pages, and its header is before the payload's address
pub record IsBlock (address : ℕ) (payload : List ℕ) : Type 0 where
  pub header : sliced_header ≤ address
  pub whole : block_size payload ≡ block_pages payload * 4096

-- a large block of so many bytes has whole pages, and isn't too small for one
pub record IsLarge (bytes : ℕ) : Type 0 where
  pub pages : ArePages bytes
  pub least : least_large ≤ bytes

-- no key is in both maps
abbrev pub KeysApart : {X Y : Type 0} → NatMap X → NatMap Y → Type 0
KeysApart m n = (q : ℕ) → IsSome (get m q) → get n q ≡ None

-- each chunk is one and has a start of its own, they are no more than the most, each large block is one and starts with no
-- chunk, and the payloads are those of the used blocks and the large ones, with as many bytes as these have
pub record IsHeap (heap : OwnHeap) : Type 0 where
  pub chunks : AllByRecursion IsChunk heap.shape.chunks
  pub starts : length heap.starts ≡ length heap.shape.chunks
  pub few : length heap.shape.chunks ≤ most_chunks
  pub differ : KeysDiffer (chunk_ranges heap.starts heap.shape.chunks)
  pub large : (start bytes : ℕ) → get heap.large start ≡ Some bytes → IsLarge bytes
  pub apart : KeysApart (from_entries (chunk_ranges heap.starts heap.shape.chunks)) (ranges_of_large heap.large)
  pub filled : (address : ℕ) → option_map length (get heap.payloads address) ≡ payload_size heap address

-- each region is of bytes that a selector names, they lie apart in the user window, and there are no more than the most
pub record AreMapped (selectors : NatMap Object) (regions : NatMap Region) : Type 0 where
  pub named : (start : ℕ) (region : Region) → get regions start ≡ Some region → NamesBytes selectors region
  pub lie : LieApart user_low user_high regions
  pub few : len regions ≤ most_regions

-- each buffer is of an open session, which has no other
pub record AreLent (selectors : NatMap Object) : Type 0 where
  pub open_session : (k q : ℕ) → is_buffer_of q (get selectors k) ≡ true → IsSome (session_named (get selectors q))
  pub only : (j k q : ℕ) → is_buffer_of q (get selectors j) ≡ true → is_buffer_of q (get selectors k) ≡ true → j ≡ k

-- what has bytes is pages, regions are mapped, each sliced block is pages, the heap is one, and what is in the heap
-- window lies apart
pub record IsSound (s : OwnState) : Type 0 where
  pub whole : (selector : ℕ) (bytes : List ℕ) → named_bytes (get s.selectors selector) ≡ Some bytes → IsPages bytes
  pub mapped : AreMapped s.selectors s.regions
  pub blocks : (address : ℕ) (payload : List ℕ) → get s.sliced address ≡ Some payload → IsBlock address payload
  pub heap_parts : IsHeap s.heap
  pub starts : KeysApart (ranges_of_blocks s.sliced) (ranges_of_heap s.heap)
  pub heap : LieApart heap_low (heap_high largest_machine) (heap_ranges s)
