-- What two kinds of heap see of one map: what an account has in it, and whose block a region is, by the number kept with it.
use Rattle.std.specs.Prelude.{◌≡◌, ◌≢◌, ℕ, ◌*◌, ◌≤◌, ◌==◌, Bool, false, nat_le, if◌then◌else◌, Option, Some, None}
use Rattle.std.specs.FinMap.{get, retain_keys}
use Rattle.std.specs.Option.{option_map, option_and_then}
use Rattle.own_model.specs.NatMap.{NatMap}
use Rattle.own_model.specs.Region.{Region}
use Rattle.region_map.specs.Regions.{Regions}
use Rattle.dataspace_core.specs.Store.{Store, ram_limits_in}
use Rattle.dataspace_core.specs.Share.{Share, share, IsShown, IsWindowOf}

-- ---- the map

-- the share of an account in a memory and a map
abbrev pub share_at : ℕ → Store → Regions → Share
share_at account store regions = share account store regions.heap regions.tags

-- the map is as large as the machine, and each heap region in it shows the whole of a dataspace of its own
pub record MapsMemory (store : Store) (regions : Regions) : Type 0 where
  pub pages : regions.pages * 4096 ≡ ram_limits_in store
  pub most : regions.heap_most ≡ regions.pages
  pub shown : (s : ℕ) (r : Region) → get regions.heap s ≡ Some r → IsShown store.spaces r
  pub once : (s t : ℕ) (r q : Region) → get regions.heap s ≡ Some r → get regions.heap t ≡ Some q → r.of ≡ q.of → s ≡ t

-- and they lie apart
abbrev pub IsMapOf : Store → Regions → Type 0
IsMapOf store regions = IsWindowOf store regions.pages regions.heap_most regions.heap

-- what of a map a heap sees is the same: the heap regions and the numbers kept with them, and how large it is
pub record KeepsHeapWindow (regions after : Regions) : Type 0 where
  pub heap : after.heap ≡ regions.heap
  pub tags : after.tags ≡ regions.tags
  pub most : after.heap_most ≡ regions.heap_most
  pub pages : after.pages ≡ regions.pages

-- ---- whose block a region is

-- the regions whose numbers pass a test
abbrev pub numbered : (Option ℕ → Bool) → NatMap Region → NatMap ℕ → NatMap Region
numbered passes heap tags = retain_keys heap (λ start. passes (get tags start))

-- the number that the region of a sliced block keeps
abbrev pub sliced_tag : ℕ
sliced_tag = 0xffffffffffffffff

-- whether this is the number that a sliced block's region keeps
abbrev pub is_sliced_tag : Option ℕ → Bool
is_sliced_tag None = false
is_sliced_tag (Some tag) = tag == sliced_tag

-- the heap regions of sliced blocks
abbrev pub sliced_regions : NatMap Region → NatMap ℕ → NatMap Region
sliced_regions heap tags = retain_keys heap (λ start. is_sliced_tag (get tags start))

-- the regions in a share that are sliced blocks
abbrev pub block_regions : Share → NatMap Region
block_regions share = sliced_regions share.heap share.tags

-- the number that the region of a heap's large block keeps. That of a chunk keeps the chunk's number, which is lower
abbrev pub large_tag : ℕ
large_tag = 64

-- whether this is the number that a large block's region keeps
abbrev pub is_large_tag : Option ℕ → Bool
is_large_tag None = false
is_large_tag (Some tag) = tag == large_tag

-- the regions in a share that are large blocks
abbrev pub large_regions : Share → NatMap Region
large_regions share = numbered is_large_tag share.heap share.tags

-- a region with the number kept with it, if that is a chunk's or a large block's
abbrev pub low_region : Option ℕ → Option Region → Option (Region × ℕ)
low_region tag region = option_and_then (λ tag. if nat_le tag large_tag then option_map (λ region. (region, tag)) region else None) tag

-- the region of a chunk or of a large block that starts at an address, and the number that it keeps
abbrev pub block_region : Share → ℕ → Option (Region × ℕ)
block_region share start = low_region (get share.tags start) (get share.heap start)

-- no region that keeps the number of a chunk or of a large block shows a dataspace
abbrev pub IsNoHeapBlock : Regions → ℕ → Type 0
IsNoHeapBlock regions key =
    (start k : ℕ) (region : Region) → get regions.heap start ≡ Some region → get regions.tags start ≡ Some k → k ≤ large_tag → region.of ≢ key
