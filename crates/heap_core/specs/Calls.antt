-- What the calls of a heap take and give back.
use Rattle.std.specs.Prelude.{◌<◌, ◌≡◌, ◌≢◌, ℕ, ◌+◌, ◌-◌, ◌*◌, ◌/◌, ◌^◌, ◌≤◌, false, List, [], ◌∷◌, ◌++◌, length, is_some, if◌then◌else◌, Option, Some, None, IfSome, IfNone, slice_range}
use Rattle.std.specs.Option.{option_map}
use Rattle.std.specs.FinMap.{get, insert, remove, len}
use Rattle.trade_base.specs.Page.{page_of}
use Rattle.trade_base.specs.declared.id.DsId.{DsId}
use Rattle.trade_base.specs.declared.refusal.Refusal.{Refusal}
use Rattle.trade_base.specs.declared.refusal.Refusal.TheVariants.{PageFault}
use Rattle.own_model.specs.Account.{charged, credited}
use Rattle.own_model.specs.BestFit.{Spot, block_size}
use Rattle.own_model.specs.Growth.{Growth, growth_of, new_hole, shape_taken}
use Rattle.own_model.specs.HeapStep.{size_taken, with_block, with_chunk, with_large, without_block, without_large}
use Rattle.own_model.specs.Heap.{header}
use Rattle.own_model.specs.HeapWindow.{heap_gap, largest_machine}
use Rattle.own_model.specs.Sliced.{block_found}
use Rattle.own_model.specs.OwnHeap.{OwnHeap, no_heap, payload_start}
use Rattle.own_model.specs.Region.{Region}
use Rattle.own_model.specs.Use.{heap_size, heap_count}
use Rattle.region_map.specs.Regions.{Regions, heap_attached, heap_detached}
use Rattle.dataspace_core.specs.Store.{Store, Part, part, account_in, bytes_of}
use Rattle.dataspace_core.specs.Share.{Share, KeepsShares}
use Rattle.heap_core.specs.declared.heap.Heap.{Heap}
use Rattle.heap_core.specs.Words.{is_among}
use Rattle.heap_core.specs.Heap.{IsSound, HasNoBlocks, chunk_at, payer_of, share_at, keys_in, shape_in, heap_at, large_regions, large_tag}

-- the part of a heap's account
abbrev pub part_at : Heap → Store → Part
part_at heap store = part (payer_of heap) store

-- what each call keeps: a sound heap of the same account, and every other account's share of the memory and the map
pub record Keeps (heap later : Heap) (old new : Store) (regions after : Regions) : Type 0 where
  pub sound : IsSound later new after
  pub others : KeepsShares (payer_of heap) old new regions.heap regions.tags after.heap after.tags
  pub payer : payer_of later ≡ payer_of heap

-- nothing has changed, where a result is what it is refused with
pub record Unchanged (If : Type 0 → Type 0) (heap later : Heap) (old new : Store) (regions after : Regions) : Type 0 where
  pub same_memory : If (new ≡ old)
  pub same_map : If (after ≡ regions)
  pub same_heap : If (later ≡ heap)

-- of the account's dataspaces none has changed but those of chunks, and each is as long as it was
pub record KeepsSpaces (heap : Heap) (old new : Store) : Type 0 where
  pub others : (k : ℕ) → is_among (keys_in heap) k ≡ false → get (part_at heap new).spaces k ≡ get (part_at heap old).spaces k
  pub lengths : (k : ℕ) → option_map length (get (part_at heap new).spaces k) ≡ option_map length (get (part_at heap old).spaces k)

-- a hole is taken for n bytes: its payload is whatever bytes are there
pub record TakesHole (heap later : Heap) (n : ℕ) (hole : Spot) (old new : Store) (regions : Regions) : Type 0 where
  pub chunk_there : hole.chunk < length (keys_in heap)
  pub value : heap_at later new regions ≡ record (heap_at heap old regions) {
    shape = shape_taken n hole (heap_at heap old regions).shape;
    payloads = insert (heap_at heap old regions).payloads (payload_start (heap_at heap old regions) hole)
        (slice_range (bytes_of (part_at heap new) (chunk_at heap hole.chunk).ds.0) (hole.offset + header) (hole.offset + size_taken (block_size n) hole.size));
  }
  pub keys : keys_in later ≡ keys_in heap
  pub account : (part_at heap new).account ≡ (part_at heap old).account
  pub spaces : KeepsSpaces heap old new

-- a block for n bytes is taken in a hole, its payload all zero
pub record TakesSmall (heap later : Heap) (n : ℕ) (hole : Spot) (address : ℕ) (old new : Store) (regions after : Regions) : Type 0 where
  pub at : address ≡ payload_start (heap_at heap old regions) hole
  pub value : heap_at later new after ≡ with_block n hole (heap_at heap old regions)
  pub map : after ≡ regions
  pub keys : keys_in later ≡ keys_in heap
  pub account : (part_at heap new).account ≡ (part_at heap old).account
  pub spaces : KeepsSpaces heap old new

-- how a heap grows for n bytes
abbrev pub growth_at : ℕ → Heap → Store → Growth
growth_at n heap store = growth_of n (shape_in heap (part_at heap store)) (account_in store (payer_of heap))

-- a chunk can be asked for by so many bytes, after which the growth number is another one
pub record IsGrowth (bytes next : ℕ) : Type 0 where
  pub some : 1 ≤ bytes
  pub short : bytes ≤ 2 ^ 20
  pub next_some : 1 ≤ next
  pub next_most : next ≤ 64

-- of the account's dataspaces one is new, and no other has changed but those of chunks
pub record AddsSpace (heap : Heap) (ds : ℕ) (old new : Store) : Type 0 where
  pub fresh : get old.spaces ds ≡ None
  pub others : (k : ℕ) → k ≢ ds → is_among (keys_in heap) k ≡ false → get (part_at heap new).spaces k ≡ get (part_at heap old).spaces k
  pub lengths : (k : ℕ) → k ≢ ds → option_map length (get (part_at heap new).spaces k) ≡ option_map length (get (part_at heap old).spaces k)
  pub count : len (part_at heap new).spaces ≡ len (part_at heap old).spaces + 1

-- so many bytes of a new dataspace are at the first gap of the heap window, in a region that keeps a number, and are paid
pub record Attaches (heap : Heap) (ds bytes tag start : ℕ) (old new : Store) (regions after : Regions) : Type 0 where
  pub gap : heap_gap regions.pages regions.heap (bytes / 4096) ≡ Some start
  pub lowest : heap_gap largest_machine regions.heap (bytes / 4096) ≡ Some start
  pub attached : after ≡ heap_attached regions ds (bytes / 4096) tag start
  pub charge : (part_at heap new).account ≡ Some (charged (account_in old (payer_of heap)) bytes 1)

-- the heap has grown by a chunk, after which the growth number is another one
pub record Grows (heap later : Heap) (growth : Growth) (old new : Store) (regions after : Regions) : Type 0 where
  pub ds : ℕ
  pub start : ℕ
  pub attaches : Attaches heap ds growth.bytes (length (keys_in heap)) start old new regions after
  pub value : heap_at later new after ≡ with_chunk growth start (heap_at heap old regions)
  pub keys : keys_in later ≡ keys_in heap ++ ds ∷ []
  pub spaces : AddsSpace heap ds old new

-- the heap has grown by a chunk for n bytes, and a block for them is taken there
pub record TakesGrown (heap later : Heap) (n address : ℕ) (old new : Store) (regions after : Regions) : Type 0 where
  pub ds : ℕ
  pub start : ℕ
  pub at : address ≡ start + 16
  pub attaches : Attaches heap ds (growth_at n heap old).bytes (length (keys_in heap)) start old new regions after
  pub value : heap_at later new after ≡
      with_block n (new_hole (growth_at n heap old) (heap_at heap old regions).shape)
      (with_chunk (growth_at n heap old) start (heap_at heap old regions))
  pub keys : keys_in later ≡ keys_in heap ++ ds ∷ []
  pub spaces : AddsSpace heap ds old new

-- a large block of n bytes is taken
pub record TakesLarge (heap later : Heap) (n start : ℕ) (old new : Store) (regions after : Regions) : Type 0 where
  pub ds : ℕ
  pub attaches : Attaches heap ds (page_of n) large_tag start old new regions after
  pub value : heap_at later new after ≡ with_large n start (heap_at heap old regions)
  pub keys : keys_in later ≡ keys_in heap
  pub spaces : AddsSpace heap ds old new

-- ---- giving back

-- why an address isn't given back: no payload starts there
abbrev pub free_refusal : OwnHeap → ℕ → Option Refusal
free_refusal heap address = if is_some (get heap.payloads address) then None else Some PageFault

-- the used block of a chunk whose payload starts at an address is given back
pub record GivesSmall (heap later : Heap) (address : ℕ) (old new : Store) (regions after : Regions) : Type 0 where
  pub value : heap_at later new after ≡ without_block address (heap_at heap old regions)
  pub map : after ≡ regions
  pub keys : keys_in later ≡ keys_in heap
  pub account : (part_at heap new).account ≡ (part_at heap old).account
  pub spaces : KeepsSpaces heap old new

-- the large block at an address is given back
pub record GivesLarge (heap later : Heap) (address : ℕ) (old new : Store) (regions after : Regions) : Type 0 where
  pub ds : ℕ
  pub pages : ℕ
  pub region : get (large_regions (share_at (payer_of heap) old regions)) address ≡ Some (record { of = ds; pages = pages })
  pub detached : after ≡ heap_detached regions address
  pub charge : (part_at heap new).account ≡ Some (credited (account_in old (payer_of heap)) (pages * 4096) 1)
  pub value : heap_at later new after ≡ without_large address (heap_at heap old regions)
  pub keys : keys_in later ≡ keys_in heap
  pub others : (k : ℕ) → k ≢ ds → get (part_at heap new).spaces k ≡ get (part_at heap old).spaces k
  pub count : len (part_at heap new).spaces + 1 ≡ len (part_at heap old).spaces

-- a large block has left a heap's list and its account's share: chunks and their blocks stay
pub record LosesLarge (heap later : Heap) (start : ℕ) (share less : Share) : Type 0 where
  pub count : length later.large.items + 1 ≡ length heap.large.items
  pub chunks : later.chunks ≡ heap.chunks
  pub fit : later.fit ≡ heap.fit
  pub left : large_regions less ≡ remove (large_regions share) start

-- a dataspace is none of a heap's: neither a chunk's nor a large block's
abbrev pub IsNoBlock : Heap → Share → ℕ → Type 0
IsNoBlock heap share k =
    (is_among (keys_in heap) k ≡ false) × ((s : ℕ) (r : Region) → get (large_regions share) s ≡ Some r → r.of ≢ k)

-- regions that keep another number than a heap's stay where they stood, and none is new
pub record KeepsElsewhere (regions after : Regions) : Type 0 where
  pub stays : (s k : ℕ) → get regions.tags s ≡ Some k → large_tag < k → (get after.heap s ≡ get regions.heap s) × (get after.tags s ≡ get regions.tags s)
  pub fewer : (s k : ℕ) → get after.tags s ≡ Some k → get regions.tags s ≡ Some k

-- all chunks and large blocks of a heap are given back: the account's other dataspaces stay, and the regions that aren't
-- the heap's
pub record GivesAll (heap later : Heap) (old new : Store) (regions after : Regions) : Type 0 where
  pub value : heap_at later new after ≡ no_heap
  pub none : HasNoBlocks (share_at (payer_of heap) new after)
  pub charge : let blocks = heap_at heap old regions in
      (part_at heap new).account ≡ Some (credited (account_in old (payer_of heap)) (heap_size blocks) (heap_count blocks))
  pub spaces : (k : ℕ) → IsNoBlock heap (share_at (payer_of heap) old regions) k → get (part_at heap new).spaces k ≡ get (part_at heap old).spaces k
  pub count : len (part_at heap new).spaces + heap_count (heap_at heap old regions) ≡ len (part_at heap old).spaces
  pub rest : after ≡ record regions { heap = after.heap; tags = after.tags }
  pub kept : KeepsElsewhere regions after

-- ---- which payload holds a range

-- a range of addresses lies in the payload that starts at an address, which is a part of a dataspace of the account, where
-- the dataspace's region has it
pub record HoldsRange (heap : Heap) (store : Store) (regions : Regions) (ds offset address count : ℕ) : Type 0 where
  pub start : ℕ
  pub pages : ℕ
  pub at : ℕ
  pub payload : List ℕ
  pub before : ℕ
  pub bytes : List ℕ
  pub region : get (share_at (payer_of heap) store regions).heap start ≡ Some (record { of = ds; pages = pages })
  pub stands : at ≡ start + before
  pub there : get (part_at heap store).spaces ds ≡ Some bytes
  pub starts : get (heap_at heap store regions).payloads at ≡ Some payload
  pub is : payload ≡ slice_range bytes before (before + length payload)
  pub within : before + length payload ≤ length bytes
  pub low : at ≤ address
  pub high : address + count ≤ at + length payload
  pub into : offset ≡ before + (address - at)
  pub found : block_found (heap_at heap store regions).payloads address count ≡ Some (at, address - at)

-- the dataspace and the offset of a range of a payload are found, or none if no payload holds it
pub record FindsRange (heap : Heap) (store : Store) (regions : Regions) (address count : ℕ) (result : Option (DsId × ℕ)) : Type 0 where
  pub some : IfSome result (λ found. HoldsRange heap store regions found.0.0 found.1 address count)
  pub none : IfNone result (block_found (heap_at heap store regions).payloads address count ≡ None)
