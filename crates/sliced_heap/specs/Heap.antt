-- What the calls of a sliced heap take, give back and keep.
use Rattle.std.specs.Prelude.{◌≡◌, ◌≢◌, ℕ, ◌+◌, ◌-◌, ◌*◌, ◌/◌, ◌≤◌, ◌<◌, List, Option, Some, None, is_some, if◌then◌else◌, length, drop}
use Rattle.std.specs.FinMap.{get, insert, remove, empty, len}
use Rattle.trade_base.specs.declared.refusal.Refusal.{Refusal}
use Rattle.trade_base.specs.declared.refusal.Refusal.TheVariants.{PageFault}
use Rattle.own_model.specs.Account.{charged, credited}
use Rattle.own_model.specs.HeapWindow.{heap_gap, largest_machine, pages_of_all}
use Rattle.own_model.specs.NatMap.{NatMap, total}
use Rattle.own_model.specs.OwnState.{zeros}
use Rattle.own_model.specs.Region.{Region}
use Rattle.own_model.specs.Sliced.{sliced_header as header, sliced_size, block_size, block_pages, block_found}
use Rattle.region_map.specs.Regions.{Regions, heap_attached, heap_detached}
use Rattle.dataspace_core.specs.Store.{Store, part, bytes_of, account_in, root_in, parents_in, room_in, IsOpenIn}
use Rattle.dataspace_core.specs.Share.{Share, share, IsShownByNone}
pub use Rattle.sliced_heap.specs.Window.{share_at, MapsMemory}
use Rattle.sliced_heap.specs.declared.heap.SlicedHeap.{SlicedHeap}
use Rattle.sliced_heap.specs.Sliced.{sliced_tag, block_regions, sliced_of, IsLinked}

-- the key of the account for which a heap takes its blocks
abbrev pub payer_of : SlicedHeap → ℕ
payer_of heap = heap.account.0

-- the blocks of an account: their payloads by the addresses where these start
abbrev pub blocks_at : ℕ → Store → Regions → NatMap (List ℕ)
blocks_at account store regions = sliced_of (share_at account store regions)

-- what is true of a heap between calls: its account is open, the map is one of the memory, and its blocks are linked
pub record IsSound (heap : SlicedHeap) (store : Store) (regions : Regions) : Type 0 where
  pub opens : IsOpenIn store (payer_of heap)
  pub maps : MapsMemory store regions
  pub linked : IsLinked (share_at (payer_of heap) store regions) heap.first

-- none of the regions in a share is a block's
abbrev pub HasNoBlocks : Share → Type 0
HasNoBlocks share = (s : ℕ) → get (block_regions share) s ≡ None

-- a dataspace is none of an account's blocks
abbrev pub IsNoBlock : Share → ℕ → Type 0
IsNoBlock share ds = (s : ℕ) (r : Region) → get (block_regions share) s ≡ Some r → r.of ≢ ds

-- an account's dataspaces that are none of its blocks stay
abbrev pub NonBlocksStay : ℕ → Store → Store → Regions → Type 0
NonBlocksStay account old new regions = (k : ℕ) → IsNoBlock (share_at account old regions) k → get (part account new).spaces k ≡ get (part account old).spaces k

-- they stay, all but one
abbrev pub OtherNonBlocksStay : ℕ → ℕ → Store → Store → Regions → Type 0
OtherNonBlocksStay account ds old new regions = (k : ℕ) → k ≢ ds → IsNoBlock (share_at account old regions) k → get (part account new).spaces k ≡ get (part account old).spaces k

-- the regions of a map that are none of an account's blocks stay
abbrev pub OtherRegionsStay : ℕ → Store → Regions → Regions → Type 0
OtherRegionsStay account old regions after = (s : ℕ) → get (block_regions (share_at account old regions)) s ≡ None → (get after.heap s ≡ get regions.heap s) × (get after.tags s ≡ get regions.tags s)

-- the regions of an account's blocks are detached
abbrev pub BlocksAreDetached : ℕ → Store → Regions → Regions → Type 0
BlocksAreDetached account old regions after = (s : ℕ) (r : Region) → get (block_regions (share_at account old regions)) s ≡ Some r → get after.heap s ≡ None

-- what a call for an account leaves as it was: every other account's share, the root's key, who is whose parent, the places
-- for accounts, and what of the map is no heap region
pub record KeepsOthers (account : ℕ) (old new : Store) (regions after : Regions) : Type 0 where
  pub shares : (other : ℕ) → other ≢ account → share_at other new after ≡ share_at other old regions
  pub root : root_in new ≡ root_in old
  pub parents : parents_in new ≡ parents_in old
  pub room : room_in new ≡ room_in old
  pub rest : after ≡ record regions { heap = after.heap; tags = after.tags }

-- what a call that takes or gives back a block keeps: a sound heap of the same account, and all that isn't this account's
pub record Keeps (heap later : SlicedHeap) (old new : Store) (regions after : Regions) : Type 0 where
  pub sound : IsSound later new after
  pub others : KeepsOthers (payer_of heap) old new regions after
  pub payer : payer_of later ≡ payer_of heap

-- a dataspace is entered as the first block, at the first gap of the heap window
pub record Enters (account ds pages address : ℕ) (old new : Store) (regions after : Regions) : Type 0 where
  pub start : ℕ
  pub at : address ≡ start + header
  pub gap : heap_gap regions.pages regions.heap pages ≡ Some start
  pub lowest : heap_gap largest_machine regions.heap pages ≡ Some start
  pub attached : after ≡ heap_attached regions ds pages sliced_tag start
  pub charge : (part account new).account ≡ (part account old).account
  pub blocks : blocks_at account new after ≡ insert (blocks_at account old regions) address (drop header (bytes_of (part account old) ds))
  pub stands : block_regions (share_at account new after) ≡ insert (block_regions (share_at account old regions)) start (record { of = ds; pages = pages })
  pub dataspaces : OtherNonBlocksStay account ds old new regions
  pub count : len (part account new).spaces ≡ len (part account old).spaces

-- a dataspace of the account that can be entered: no region shows it, and there is room for one of as many pages
pub record CanEnter (account ds pages : ℕ) (store : Store) (regions : Regions) : Type 0 where
  pub bytes : List ℕ
  pub there : get (part account store).spaces ds ≡ Some bytes
  pub some : 1 ≤ pages
  pub whole : length bytes ≡ pages * 4096
  pub unshown : IsShownByNone regions.heap ds
  pub room : len regions.heap < regions.heap_most
  pub fits : pages_of_all regions.heap + pages ≤ regions.pages

-- a block of n bytes is taken: in a new dataspace, at the first gap of the heap window
pub record TakesBlock (account n address : ℕ) (old new : Store) (regions after : Regions) : Type 0 where
  pub ds : ℕ
  pub start : ℕ
  pub at : address ≡ start + header
  pub gap : heap_gap regions.pages regions.heap (sliced_size n / 4096) ≡ Some start
  pub lowest : heap_gap largest_machine regions.heap (sliced_size n / 4096) ≡ Some start
  pub fresh : get old.spaces ds ≡ None
  pub attached : after ≡ heap_attached regions ds (sliced_size n / 4096) sliced_tag start
  pub charge : (part account new).account ≡ Some (charged (account_in old account) (sliced_size n) 1)
  pub blocks : blocks_at account new after ≡ insert (blocks_at account old regions) address (zeros (sliced_size n - header))
  pub stands : block_regions (share_at account new after) ≡ insert (block_regions (share_at account old regions)) start (record { of = ds; pages = sliced_size n / 4096 })
  pub dataspaces : OtherNonBlocksStay account ds old new regions
  pub count : len (part account new).spaces ≡ len (part account old).spaces + 1

-- why a block isn't given back: no payload starts at the address
abbrev pub free_refusal : NatMap (List ℕ) → ℕ → Option Refusal
free_refusal blocks address = if is_some (get blocks address) then None else Some PageFault

-- the block whose payload starts at an address is given back
pub record GivesBlock (account address : ℕ) (old new : Store) (regions after : Regions) : Type 0 where
  pub ds : ℕ
  pub start : ℕ
  pub at : address ≡ start + header
  pub payload : List ℕ
  pub was : get (blocks_at account old regions) address ≡ Some payload
  pub region : get regions.heap start ≡ Some (record { of = ds; pages = block_pages payload })
  pub detached : after ≡ heap_detached regions start
  pub charge : (part account new).account ≡ Some (credited (account_in old account) (block_size payload) 1)
  pub blocks : blocks_at account new after ≡ remove (blocks_at account old regions) address
  pub left : block_regions (share_at account new after) ≡ remove (block_regions (share_at account old regions)) start
  pub dataspaces : NonBlocksStay account old new regions
  pub count : len (part account new).spaces + 1 ≡ len (part account old).spaces

-- all blocks of an account are given back: its other dataspaces stay, and the regions that aren't its blocks'
pub record GivesAll (account : ℕ) (old new : Store) (regions after : Regions) : Type 0 where
  pub blocks : blocks_at account new after ≡ empty
  pub none : HasNoBlocks (share_at account new after)
  pub charge : let blocks = blocks_at account old regions in
      (part account new).account ≡ Some (credited (account_in old account) (total block_size blocks) (len blocks))
  pub dataspaces : NonBlocksStay account old new regions
  pub count : len (part account new).spaces + len (blocks_at account old regions) ≡ len (part account old).spaces
  pub kept : OtherRegionsStay account old regions after
  pub gone : BlocksAreDetached account old regions after

-- ---- which block holds an address

-- the region that starts here is a block's, in this dataspace
pub record IsBlockAt (share : Share) (start ds : ℕ) : Type 0 where
  pub pages : ℕ
  pub region : get (block_regions share) start ≡ Some (record { of = ds; pages = pages })

-- the block whose region starts here holds the address, in its header or in its payload, and no other block does
pub record HoldsAddress (share : Share) (start ds address : ℕ) : Type 0 where
  pub pages : ℕ
  pub region : get (block_regions share) start ≡ Some (record { of = ds; pages = pages })
  pub low : start ≤ address
  pub high : address < start + pages * 4096
  pub only : (s : ℕ) (r : Region) → get (block_regions share) s ≡ Some r → s ≤ address → address < s + r.pages * 4096 → s ≡ start

-- no block does
abbrev pub NoneHolds : Share → ℕ → Type 0
NoneHolds share address = (s : ℕ) (r : Region) → get (block_regions share) s ≡ Some r → s ≤ address → ¬ (address < s + r.pages * 4096)

-- a range of addresses lies in the payload of a block, so far into its dataspace, which has these bytes
pub record HoldsRange (share : Share) (ds offset address count : ℕ) : Type 0 where
  pub start : ℕ
  pub pages : ℕ
  pub bytes : List ℕ
  pub region : get (block_regions share) start ≡ Some (record { of = ds; pages = pages })
  pub there : get share.part.spaces ds ≡ Some bytes
  pub at : start + offset ≡ address
  pub behind : header ≤ offset
  pub within : offset + count ≤ length bytes
  pub payload : get (sliced_of share) (start + header) ≡ Some (drop header bytes)
  pub found : block_found (sliced_of share) address count ≡ Some (start + header, offset - header)
