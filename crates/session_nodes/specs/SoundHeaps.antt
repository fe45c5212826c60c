-- What a session of the file service has: its account, a heap for the nodes of its files, and its sliced heap. Contents are
-- in the sliced heap, in addition to the session's object. Both heaps are the account's, on the server's one map.
use Rattle.std.specs.Prelude.{◌≡◌, ℕ, ◌+◌, ◌==◌, Bool, false, List, length, Option, Some, None, IsSome}
use Rattle.std.specs.FinMap.{get, len, empty}
use Rattle.own_model.specs.Account.{Account}
use Rattle.own_model.specs.NatMap.{NatMap}
use Rattle.own_model.specs.OwnHeap.{OwnHeap}
use Rattle.own_model.specs.Region.{Region}
use Rattle.region_map.specs.Regions.{Regions, of_no_heap}
use Rattle.dataspace_core.specs.Share.{Share}
use Rattle.dataspace_core.specs.Store.{Store, part, account_in}
use Rattle.sliced_heap.specs.Window.{share_at, numbered}
use Rattle.heap_core.specs.declared.heap.Heap.{Heap}
use Rattle.heap_core.specs.Heap.{payer_of as heap_payer, heap_in, IsLaid, IsSound as IsSoundHeap}
use Rattle.sliced_heap.specs.declared.heap.SlicedHeap.{SlicedHeap}
use Rattle.sliced_heap.specs.Heap.{payer_of, KeepsOthers}
use Rattle.sliced_heap.specs.Sliced.{sliced_of}
use Rattle.server_frame.specs.Session.{IsSessionHeap, holding_of}

-- ---- what is neither heap's

-- whether this is the number that a region of no heap keeps
abbrev pub is_lent_tag : Option ℕ → Bool
is_lent_tag None = false
is_lent_tag (Some tag) = tag == of_no_heap

-- the regions of no heap in a share: that of the session's buffer
abbrev pub lent_regions : Share → NatMap Region
lent_regions share = numbered is_lent_tag share.heap share.tags

-- they are unchanged, and so are the bytes of their dataspaces
pub record KeepsLent (account : ℕ) (old new : Store) (regions after : Regions) : Type 0 where
  pub stands : lent_regions (share_at account new after) ≡ lent_regions (share_at account old regions)
  pub bytes : (s : ℕ) (r : Region) → get (lent_regions (share_at account old regions)) s ≡ Some r →
      get (part account new).spaces r.of ≡ get (part account old).spaces r.of

-- ---- what is true between requests, for any account of the heap of nodes

-- a share that a map of a memory can have: each region shows a dataspace of the account, and no two show the same
pub record IsShare (share : Share) : Type 0 where
  pub paid : (s : ℕ) (r : Region) → get share.heap s ≡ Some r → IsSome (get share.part.spaces r.of)
  pub once : (s t : ℕ) (r q : Region) → get share.heap s ≡ Some r → get share.heap t ≡ Some q → r.of ≡ q.of → s ≡ t

-- a heap is in a share and has no large block; all that the account has are its chunks, the sliced blocks, and the buffer
pub record HoldsNodes (heap : Heap) (share : Share) : Type 0 where
  pub laid : IsLaid heap share
  pub no_large : (heap_in heap share).large ≡ empty
  pub all : len share.part.spaces ≡ length (heap_in heap share).shape.chunks + len (sliced_of share) + len (lent_regions share)

-- it is so in each share that a map of a memory can have
abbrev pub KeepsNodes : Heap → Share → Type 0
KeepsNodes heap share = IsShare share → HoldsNodes heap share

-- ---- what is true while a request is served

-- both heaps of a session are sound and of one account, and all that the account has is theirs or the buffer
pub record HasSoundHeaps (heap : Heap) (sliced : SlicedHeap) (store : Store) (regions : Regions) : Type 0 where
  pub session : IsSessionHeap sliced store regions
  pub payer : heap_payer heap ≡ payer_of sliced
  pub sound : IsSoundHeap heap store regions
  pub nodes : HoldsNodes heap (holding_of sliced store regions)

-- what a session has: its account, the heap of its nodes, and what its sliced blocks hold by their addresses
pub record Stock : Type 0 where
  pub account : Account
  pub nodes : OwnHeap
  pub contents : NatMap (List ℕ)

abbrev pub stock : Heap → SlicedHeap → Store → Regions → Stock
stock heap sliced store regions = record {
  account = account_in store (payer_of sliced);
  nodes = heap_in heap (holding_of sliced store regions);
  contents = sliced_of (holding_of sliced store regions);
}

-- a session is sound after a call, of the same account, and what other accounts have is unchanged
pub record KeepsSoundHeaps (sliced : SlicedHeap) (later : Heap) (now : SlicedHeap) (old new : Store) (regions after : Regions) : Type 0 where
  pub furnished : HasSoundHeaps later now new after
  pub payer : payer_of now ≡ payer_of sliced
  pub others : KeepsOthers (payer_of sliced) old new regions after

-- it is so after calls of either heap, which keep what is neither's
pub record KeepsSession (sliced : SlicedHeap) (later : Heap) (now : SlicedHeap) (old new : Store) (regions after : Regions) : Type 0 where
  pub stays : KeepsSoundHeaps sliced later now old new regions after
  pub lent : KeepsLent (payer_of sliced) old new regions after
