-- Theorems on sliced heaps, as statements: what other calls leave of a heap, and what a range of a payload is.
use Rattle.std.specs.Prelude.{◌≡◌, ◌≢◌, ℕ, ◌+◌, ◌-◌, ◌*◌, List, [], length, drop, slice_range, Some, IsSome, unwrap_or}
use Rattle.std.specs.FinMap.{get, insert, empty}
use Rattle.std.specs.Option.{option_map}
use Rattle.own_model.specs.Account.{Account}
use Rattle.own_model.specs.HeapWindow.{heap_gap}
use Rattle.own_model.specs.OwnState.{with_part}
use Rattle.own_model.specs.Region.{Region}
use Rattle.own_model.specs.Sliced.{sliced_header as header, ranges_of_blocks}
use Rattle.region_map.specs.Regions.{Regions}
use Rattle.dataspace_core.specs.Store.{Store, Space, Part, part, account_in, IsOpenIn, PartBecomes, part_with_bytes, ram_limits_in}
use Rattle.dataspace_core.specs.Share.{Share}
pub use Rattle.sliced_heap.specs.Window.{KeepsHeapWindow}
use Rattle.sliced_heap.specs.declared.heap.SlicedHeap.{SlicedHeap}
use Rattle.sliced_heap.specs.Sliced.{block_regions, sliced_of}
use Rattle.sliced_heap.specs.Heap.{payer_of, share_at, blocks_at, MapsMemory, IsSound, HasNoBlocks, KeepsOthers, HoldsRange}

-- ---- the map

-- a map without a heap region is one of each memory of its size, and holds no block
abbrev pub EmptyMapsHaveNoBlocks : Type 0
EmptyMapsHaveNoBlocks =
    (store : Store) (regions : Regions) → regions.heap ≡ empty → regions.pages * 4096 ≡ ram_limits_in store → regions.heap_most ≡ regions.pages →
    MapsMemory store regions × ((account : ℕ) → HasNoBlocks (share_at account store regions))

-- a map stays one of the memory while all limits stay and the dataspaces that its heap regions show keep their lengths
abbrev pub MapsStay : Type 0
MapsStay =
    (old new : Store) (regions after : Regions) → MapsMemory old regions → KeepsHeapWindow regions after → ram_limits_in new ≡ ram_limits_in old →
    ((s : ℕ) (r : Region) → get regions.heap s ≡ Some r → option_map (λ (x : Space). length x.bytes) (get new.spaces r.of) ≡ option_map (λ (x : Space). length x.bytes) (get old.spaces r.of)) →
    MapsMemory new after

-- so a call for one account leaves it one of the memory, where it leaves the account's limit of RAM and the lengths of
-- what heap regions show of the account's
abbrev pub MapsStayForPayers : Type 0
MapsStayForPayers =
    (account : ℕ) (p : Part) (a : Account) (old new : Store) (regions after : Regions) → MapsMemory old regions → KeepsHeapWindow regions after →
    PartBecomes account p old new → IsOpenIn old account → p.account ≡ Some a → a.ram_limit ≡ (account_in old account).ram_limit →
    ((s : ℕ) (r : Region) → get regions.heap s ≡ Some r → option_map length (get p.spaces r.of) ≡ option_map length (get (part account old).spaces r.of)) →
    MapsMemory new after

-- ---- other calls

-- a heap is as it was: sound, its blocks the same, and where they were
pub record HeapStays (heap : SlicedHeap) (old new : Store) (regions after : Regions) : Type 0 where
  pub sound : IsSound heap new after
  pub blocks : blocks_at (payer_of heap) new after ≡ blocks_at (payer_of heap) old regions
  pub stands : block_regions (share_at (payer_of heap) new after) ≡ block_regions (share_at (payer_of heap) old regions)

-- a heap stays as it is while its account's part becomes one that has the same bytes in the heap's blocks
abbrev pub HeapsStay : Type 0
HeapsStay =
    (heap : SlicedHeap) (p : Part) (old new : Store) (regions after : Regions) → IsSound heap old regions → KeepsHeapWindow regions after → MapsMemory new after →
    PartBecomes (payer_of heap) p old new → IsSome p.account →
    ((s : ℕ) (r : Region) → get (block_regions (share_at (payer_of heap) old regions)) s ≡ Some r → get p.spaces r.of ≡ get (part (payer_of heap) old).spaces r.of) →
    HeapStays heap old new regions after

-- so it does on a map that holds other blocks of the account, while its own are at their addresses with their contents
abbrev pub HeapsStayAmong : Type 0
HeapsStayAmong =
    (heap : SlicedHeap) (old new : Store) (regions after : Regions) → IsSound heap old regions → MapsMemory new after → IsOpenIn new (payer_of heap) →
    block_regions (share_at (payer_of heap) new after) ≡ block_regions (share_at (payer_of heap) old regions) →
    ((s : ℕ) (r : Region) → get (block_regions (share_at (payer_of heap) old regions)) s ≡ Some r →
    get (part (payer_of heap) new).spaces r.of ≡ get (part (payer_of heap) old).spaces r.of) →
    HeapStays heap old new regions after

-- a heap on a map of its own stays as it is while its account's part stays
abbrev pub HeapsStayElsewhere : Type 0
HeapsStayElsewhere =
    (heap : SlicedHeap) (old new : Store) (regions : Regions) → IsSound heap old regions →
    part (payer_of heap) new ≡ part (payer_of heap) old → ram_limits_in new ≡ ram_limits_in old →
    ((s : ℕ) (r : Region) → get regions.heap s ≡ Some r → IsSome (get (part (payer_of heap) old).spaces r.of)) →
    HeapStays heap old new regions regions

-- a heap on a map that other accounts use stays as it is while another account's heap takes blocks and gives them back
abbrev pub HeapsStayBeside : Type 0
HeapsStayBeside =
    (heap : SlicedHeap) (other : ℕ) (old new : Store) (regions after : Regions) → IsSound heap old regions →
    other ≢ payer_of heap → KeepsOthers other old new regions after → MapsMemory new after →
    HeapStays heap old new regions after

-- ---- payloads

-- the bytes of one payload are others, and the heap is else as it was
pub record Pokes (heap : SlicedHeap) (block : ℕ) (payload : List ℕ) (old new : Store) (regions : Regions) : Type 0 where
  pub sound : IsSound heap new regions
  pub blocks : blocks_at (payer_of heap) new regions ≡ insert (blocks_at (payer_of heap) old regions) block payload
  pub stands : block_regions (share_at (payer_of heap) new regions) ≡ block_regions (share_at (payer_of heap) old regions)

-- to write where a range of a payload is found puts the bytes over that payload
abbrev pub PayloadsArePoked : Type 0
PayloadsArePoked =
    (heap : SlicedHeap) (ds offset address : ℕ) (bytes : List ℕ) (old new : Store) (regions : Regions) → IsSound heap old regions →
    (held : HoldsRange (share_at (payer_of heap) old regions) ds offset address (length bytes)) →
    PartBecomes (payer_of heap) (part_with_bytes (part (payer_of heap) old) ds offset bytes) old new →
    Pokes heap (held.start + header) (with_part (drop header held.bytes) (offset - header) bytes) old new regions

-- and to read there returns the bytes of the payload
abbrev pub PayloadsAreRead : Type 0
PayloadsAreRead =
    (share : Share) (ds offset address count : ℕ) → (held : HoldsRange share ds offset address count) →
    slice_range held.bytes offset (offset + count)
    ≡ slice_range (unwrap_or (get (sliced_of share) (held.start + header)) []) (offset - header) (offset - header + count)

-- ---- the addresses of blocks

-- the ranges of a heap's blocks are the regions that are blocks
abbrev pub BlocksAreRegions : Type 0
BlocksAreRegions =
    (heap : SlicedHeap) (store : Store) (regions : Regions) → IsSound heap store regions →
    (s : ℕ) → get (ranges_of_blocks (blocks_at (payer_of heap) store regions)) s
    ≡ option_map (λ (r : Region). record { of = 0; pages = r.pages }) (get (block_regions (share_at (payer_of heap) store regions)) s)

-- so where each heap region is a block, the gaps between blocks are the map's
abbrev pub GapsAreBetweenBlocks : Type 0
GapsAreBetweenBlocks =
    (heap : SlicedHeap) (store : Store) (regions : Regions) → IsSound heap store regions →
    ((s : ℕ) (r : Region) → get regions.heap s ≡ Some r → get (block_regions (share_at (payer_of heap) store regions)) s ≡ Some r) →
    (machine pages : ℕ) → heap_gap machine (ranges_of_blocks (blocks_at (payer_of heap) store regions)) pages ≡ heap_gap machine regions.heap pages
