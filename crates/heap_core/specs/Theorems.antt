-- Theorems on heaps, as statements: what other calls leave of a heap, and what a range of a payload is.
use Rattle.std.specs.Prelude.{◌≡◌, ◌≢◌, ℕ, ◌+◌, ◌-◌, ◌*◌, ◌≤◌, true, List, length, slice_range, Some}
use Rattle.std.specs.FinMap.{get, empty}
use Rattle.std.specs.Option.{option_map}
use Rattle.own_model.specs.HeapStep.{with_poked}
use Rattle.own_model.specs.HeapWindow.{largest_machine}
use Rattle.own_model.specs.OwnHeap.{ranges_of_heap}
use Rattle.own_model.specs.Region.{Region}
use Rattle.region_map.specs.Regions.{Regions}
use Rattle.dataspace_core.specs.Store.{Store, part, IsOpenIn, PartBecomes, part_with_bytes, ram_limits_in}
use Rattle.dataspace_core.specs.Share.{KeepsShares}
pub use Rattle.sliced_heap.specs.Window.{IsMapOf, block_region}
use Rattle.heap_core.specs.declared.heap.Heap.{Heap}
use Rattle.heap_core.specs.Calls.{HoldsRange}
use Rattle.heap_core.specs.Heap.{HasNoBlocks, IsSound, heap_at, payer_of, share_at}
use Rattle.heap_core.specs.Words.{are_bytes}

-- a map without a heap region is one of each memory of its size, and holds no block
abbrev pub EmptyMapsHaveNoBlocks : Type 0
EmptyMapsHaveNoBlocks =
    (store : Store) (regions : Regions) → regions.heap ≡ empty → regions.pages * 4096 ≡ ram_limits_in store → regions.heap_most ≡ regions.pages →
    regions.pages ≤ largest_machine →
    IsMapOf store regions × ((account : ℕ) → HasNoBlocks (share_at account store regions))

-- ---- other calls

-- a heap is as it was: sound, its blocks and what they hold the same, and where they were
pub record HeapStays (heap : Heap) (old new : Store) (regions after : Regions) : Type 0 where
  pub sound : IsSound heap new after
  pub value : heap_at heap new after ≡ heap_at heap old regions
  pub stands : (s : ℕ) → block_region (share_at (payer_of heap) new after) s ≡ block_region (share_at (payer_of heap) old regions) s

-- a heap stays as it is while its chunks and large blocks are at their addresses with their contents
abbrev pub HeapsStay : Type 0
HeapsStay =
    (heap : Heap) (old new : Store) (regions after : Regions) → IsSound heap old regions → IsMapOf new after → IsOpenIn new (payer_of heap) →
    ((s : ℕ) → block_region (share_at (payer_of heap) new after) s ≡ block_region (share_at (payer_of heap) old regions) s) →
    ((s k : ℕ) (r : Region) → block_region (share_at (payer_of heap) old regions) s ≡ Some (r, k) →
    get (part (payer_of heap) new).spaces r.of ≡ get (part (payer_of heap) old).spaces r.of) →
    HeapStays heap old new regions after

-- a heap on a map that other accounts use stays as it is while another account's heap takes blocks and gives them back
abbrev pub HeapsStayBeside : Type 0
HeapsStayBeside =
    (heap : Heap) (other : ℕ) (old new : Store) (regions after : Regions) → IsSound heap old regions → other ≢ payer_of heap →
    KeepsShares other old new regions.heap regions.tags after.heap after.tags → IsMapOf new after →
    HeapStays heap old new regions after

-- ---- payloads

-- the bytes of one payload are others from an offset on, and the heap is else as it was
pub record Pokes (heap : Heap) (address : ℕ) (payload : List ℕ) (offset : ℕ) (bytes : List ℕ) (old new : Store) (regions : Regions) : Type 0 where
  pub sound : IsSound heap new regions
  pub value : heap_at heap new regions ≡ with_poked address payload offset bytes (heap_at heap old regions)
  pub stands : (s : ℕ) → block_region (share_at (payer_of heap) new regions) s ≡ block_region (share_at (payer_of heap) old regions) s

-- to write where a range of a payload is found puts the bytes over that payload, whatever they imitate
abbrev pub PayloadsArePoked : Type 0
PayloadsArePoked =
    (heap : Heap) (ds offset address : ℕ) (bytes : List ℕ) (old new : Store) (regions : Regions) → IsSound heap old regions → are_bytes bytes ≡ true →
    (held : HoldsRange heap old regions ds offset address (length bytes)) →
    PartBecomes (payer_of heap) (part_with_bytes (part (payer_of heap) old) ds offset bytes) old new →
    Pokes heap held.at held.payload (address - held.at) bytes old new regions

-- and to read there returns the bytes of the payload
abbrev pub PayloadsAreRead : Type 0
PayloadsAreRead =
    (heap : Heap) (store : Store) (regions : Regions) (ds offset address count : ℕ) → (held : HoldsRange heap store regions ds offset address count) →
    slice_range held.bytes offset (offset + count) ≡ slice_range held.payload (address - held.at) (address - held.at + count)

-- ---- the addresses of blocks

-- the ranges of a heap's chunks and large blocks are the regions that keep their numbers
abbrev pub BlocksAreRegions : Type 0
BlocksAreRegions =
    (heap : Heap) (store : Store) (regions : Regions) → IsSound heap store regions →
    (s : ℕ) → get (ranges_of_heap (heap_at heap store regions)) s
    ≡ option_map (λ (e : Region × ℕ). record { of = 0; pages = e.0.pages }) (block_region (share_at (payer_of heap) store regions) s)
