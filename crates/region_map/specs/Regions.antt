-- What a contract sees of a region map.
use Rattle.std.specs.Prelude.{◌≡◌, ℕ, ◌≤◌, Option, is_some}
use Rattle.std.proofs.Common.{refl}
use Rattle.std.specs.Coded.{Coded, code_by, coded×, coded_ℕ}
use Rattle.std.specs.FinMap as map
use Rattle.std.specs.FinMap.{get, insert, remove, empty}
use Rattle.std.specs.Option.{option_map, option_and_then, option_or}
use Rattle.own_model.specs.NatMap.{NatMap}
use Rattle.own_model.specs.Region.{Region, user_low, user_high, region_at, resolved, without}
use Rattle.own_model.specs.HeapWindow.{heap_low, heap_high, largest_machine}
use Rattle.own_model.specs.Sound.{LieApart}

-- each region of a dataspace's key: the user regions by their starts and how many of them there are at most; the heap
-- regions likewise, and the number kept with each; and the machine's pages
pub record Regions : Type 0 where
  pub user : NatMap Region
  pub most : ℕ
  pub heap : NatMap Region
  pub tags : NatMap ℕ
  pub heap_most : ℕ
  pub pages : ℕ

-- a region is stored as the pair of its fields
abbrev pub coded_region : Coded Region
coded_region = code_by (ℕ × ℕ) (coded× coded_ℕ coded_ℕ) (λ r. (r.of, r.pages)) (λ p. record { of = p.0; pages = p.1 }) (λ _. refl)

-- regions are stored as the tuple of their fields
abbrev pub coded_regions : Coded Regions
coded_regions =
    code_by
    ((NatMap Region × ℕ) × ((NatMap Region × NatMap ℕ) × (ℕ × ℕ)))
    (coded× (coded× (map.code coded_ℕ coded_region) coded_ℕ)
    (coded× (coded× (map.code coded_ℕ coded_region) (map.code coded_ℕ coded_ℕ)) (coded× coded_ℕ coded_ℕ)))
    (λ s. ((s.user, s.most), ((s.heap, s.tags), (s.heap_most, s.pages))))
    (λ p. record { user = p.0.0; most = p.0.1; heap = p.1.0.0; tags = p.1.0.1; heap_most = p.1.1.0; pages = p.1.1.1 })
    (λ _. refl)

-- nothing attached
abbrev pub fresh_regions : ℕ → ℕ → ℕ → Regions
fresh_regions most heap_most pages =
    record { user = empty; most = most; heap = empty; tags = empty; heap_most = heap_most; pages = pages }

-- ---- the user window

-- a region more: of a dataspace, with so many pages, from an address on
abbrev pub attached : Regions → ℕ → ℕ → ℕ → Regions
attached regions ds pages address = record regions { user = insert regions.user address (record { of = ds; pages = pages }) }

-- the region that starts at an address removed
abbrev pub detached : Regions → ℕ → Regions
detached regions address = record regions { user = remove regions.user address }

-- all regions of a dataspace removed
abbrev pub all_detached : Regions → ℕ → Regions
all_detached regions ds = record regions { user = without ds regions.user }

-- ---- the heap window

-- the number kept with a heap region that is no heap's
abbrev pub of_no_heap : ℕ
of_no_heap = 65

-- a heap region more: of a dataspace, with so many pages, from an address on, and a number kept with it
abbrev pub heap_attached : Regions → ℕ → ℕ → ℕ → ℕ → Regions
heap_attached regions ds pages tag address = record regions {
  heap = insert regions.heap address (record { of = ds; pages = pages });
  tags = insert regions.tags address tag;
}

-- the heap region that starts at an address removed
abbrev pub heap_detached : Regions → ℕ → Regions
heap_detached regions address = record regions { heap = remove regions.heap address; tags = remove regions.tags address }

-- ---- what is found at an address

-- the start of the heap region that holds an address, its dataspace, and the number kept with it
abbrev pub heap_found : Regions → ℕ → Option (ℕ × ℕ × ℕ)
heap_found regions address =
    option_and_then (λ e. option_map (λ tag. (e.0, e.1.of, tag)) (get regions.tags e.0)) (region_at regions.heap address 1)

-- the dataspace of the region of either window that holds the whole range, and how far into it the range starts, in bytes
abbrev pub either_resolved : Regions → ℕ → ℕ → Option (ℕ × ℕ)
either_resolved regions address length = option_or (resolved regions.user address length) (resolved regions.heap address length)

-- ---- what is so of every region map

-- the regions lie apart in their windows, a number is kept with each heap region and with nothing else, and the machine
-- is none too large
pub record AreSound (regions : Regions) : Type 0 where
  pub user : LieApart user_low user_high regions.user
  pub heap : LieApart heap_low (heap_high regions.pages) regions.heap
  pub tagged : (start : ℕ) → is_some (get regions.tags start) ≡ is_some (get regions.heap start)
  pub pages : regions.pages ≤ largest_machine
