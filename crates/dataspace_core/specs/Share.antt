-- What one account has of a memory and of a heap window that several accounts use.
use Rattle.std.specs.Prelude.{◌≡◌, ◌≢◌, ℕ, ◌*◌, ◌≤◌, List, length, Option, Some, None, is_some, if◌then◌else◌}
use Rattle.std.specs.FinMap.{get, retain_keys}
use Rattle.own_model.specs.HeapWindow.{heap_low, heap_high, largest_machine}
use Rattle.own_model.specs.NatMap.{NatMap, picked}
use Rattle.own_model.specs.Region.{Region}
use Rattle.own_model.specs.Sound.{LieApart}
use Rattle.dataspace_core.specs.Store.{Store, Space, Part, part, root_in, parents_in, room_in, ram_limits_in}

-- a region that shows one of these dataspaces
abbrev pub shown : NatMap (List ℕ) → Region → Option Region
shown spaces region = if is_some (get spaces region.of) then Some region else None

-- none of these regions shows a dataspace
abbrev pub IsShownByNone : NatMap Region → ℕ → Type 0
IsShownByNone heap ds = (s : ℕ) (r : Region) → get heap s ≡ Some r → r.of ≢ ds

-- an account's part of the memory, the heap regions that show its dataspaces, and the numbers that are kept with these
pub record Share : Type 0 where
  pub part : Part
  pub heap : NatMap Region
  pub tags : NatMap ℕ

-- the numbers that are kept with these regions
unfoldable pub tags_of : NatMap Region → NatMap ℕ → NatMap ℕ
tags_of heap tags = retain_keys tags (λ start. is_some (get heap start))

-- the share of a part
unfoldable pub share_in : Part → NatMap Region → NatMap ℕ → Share
share_in part heap tags = record {
  part = part;
  heap = picked (shown part.spaces) heap;
  tags = tags_of (picked (shown part.spaces) heap) tags;
}

-- the share of an account
abbrev pub share : ℕ → Store → NatMap Region → NatMap ℕ → Share
share account store heap tags = share_in (part account store) heap tags

-- a region shows the whole of a dataspace, which has a page at least
pub record IsShown (spaces : NatMap Space) (region : Region) : Type 0 where
  pub space : Space
  pub there : get spaces region.of ≡ Some space
  pub some : 1 ≤ region.pages
  pub whole : length space.bytes ≡ region.pages * 4096

-- a heap window of a machine of so many pages, with so many regions at most, is as large as the memory, and each region in it
-- shows the whole of a dataspace of its own, and they lie apart
pub record IsWindowOf (store : Store) (pages most : ℕ) (heap : NatMap Region) : Type 0 where
  pub size : pages * 4096 ≡ ram_limits_in store
  pub few : pages ≤ largest_machine
  pub lie : LieApart heap_low (heap_high pages) heap
  pub most_is : most ≡ pages
  pub shown_whole : (s : ℕ) (r : Region) → get heap s ≡ Some r → IsShown store.spaces r
  pub once : (s t : ℕ) (r q : Region) → get heap s ≡ Some r → get heap t ≡ Some q → r.of ≡ q.of → s ≡ t

-- what calls for an account leave as it was: every other account's share, the root's key, who is whose parent, and the places
-- for accounts
pub record KeepsShares (account : ℕ) (old new : Store) (heap : NatMap Region) (tags : NatMap ℕ) (after : NatMap Region) (numbers : NatMap ℕ) : Type 0 where
  pub shares : (other : ℕ) → other ≢ account → share other new after numbers ≡ share other old heap tags
  pub root : root_in new ≡ root_in old
  pub parents : parents_in new ≡ parents_in old
  pub room : room_in new ≡ room_in old
