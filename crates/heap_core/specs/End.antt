-- How far the end of a heap has come.
use Rattle.std.proofs.Common.{zero, suc}
use Rattle.std.specs.Prelude.{◌≡◌, ℕ, ◌+◌, ◌*◌, ◌<◌, ◌≤◌, false, length, Some}
use Rattle.std.specs.FinMap.{get, len}
use Rattle.own_model.specs.Account.{credited}
use Rattle.own_model.specs.Region.{Region}
use Rattle.avl_alloc.specs.Layout as avl
use Rattle.region_map.specs.Regions.{Regions}
use Rattle.dataspace_core.specs.Store.{Store, part, account_in, IsOpenIn}
use Rattle.dataspace_core.specs.Share.{Share, IsWindowOf, KeepsShares}
use Rattle.heap_core.specs.declared.heap.Heap.{Heap}
use Rattle.heap_core.specs.Calls.{GivesAll, KeepsElsewhere}
use Rattle.heap_core.specs.Heap.{IsSound, chunk_at, keys_in, large_tag, payer_of, share_at}
use Rattle.heap_core.specs.Words.{is_among}

-- some large blocks are given back: what is still to be given back makes, with what is, all
pub record EndsLarge (heap now : Heap) (old mid : Store) (regions between : Regions) : Type 0 where
  pub sound : IsSound now mid between
  pub payer : payer_of now ≡ payer_of heap
  pub others : KeepsShares (payer_of heap) old mid regions.heap regions.tags between.heap between.tags
  pub rest : (later : Heap) (new : Store) (after : Regions) → payer_of later ≡ payer_of heap → GivesAll now later mid new between after → GivesAll heap later old new regions after

-- the bytes of chunks from a number on
abbrev pub bytes_from : Heap → ℕ → ℕ → ℕ
bytes_from heap number zero = 0
bytes_from heap number (suc n) = avl.bytes_of heap.fit number + bytes_from heap (number + 1) n

-- a chunk's region is there
pub record HasChunk (share : Share) (heap : Heap) (k : ℕ) : Type 0 where
  pub pages : ℕ
  pub region : get share.heap (chunk_at heap k).start ≡ Some (record { of = (chunk_at heap k).ds.0; pages = pages })
  pub tag : get share.tags (chunk_at heap k).start ≡ Some k
  pub whole : avl.bytes_of heap.fit k ≡ pages * 4096

-- so many chunks are left, the first ones, and the others are given back
pub record EndsChunks (heap : Heap) (left : ℕ) (old new : Store) (regions after : Regions) : Type 0 where
  pub gone : ℕ
  pub sum : left + gone ≡ length heap.chunks.items
  pub opens : IsOpenIn new (payer_of heap)
  pub window : IsWindowOf new after.pages after.heap_most after.heap
  pub each : (k : ℕ) → k < left → HasChunk (share_at (payer_of heap) new after) heap k
  pub all : (start k : ℕ) (region : Region) → get (share_at (payer_of heap) new after).heap start ≡ Some region → get (share_at (payer_of heap) new after).tags start ≡ Some k → k ≤ large_tag → (k < left) × ((chunk_at heap k).start ≡ start)
  pub charge : (part (payer_of heap) new).account ≡ Some (credited (account_in old (payer_of heap)) (bytes_from heap left gone) gone)
  pub spaces : (k : ℕ) → is_among (keys_in heap) k ≡ false → get (part (payer_of heap) new).spaces k ≡ get (part (payer_of heap) old).spaces k
  pub count : len (part (payer_of heap) new).spaces + gone ≡ len (part (payer_of heap) old).spaces
  pub rest : after ≡ record regions { heap = after.heap; tags = after.tags }
  pub kept : KeepsElsewhere regions after
  pub others : KeepsShares (payer_of heap) old new regions.heap regions.tags after.heap after.tags
