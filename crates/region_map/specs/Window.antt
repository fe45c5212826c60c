-- What a contract sees of a table.
use Rattle.std.specs.Prelude.{◌≡◌, ℕ, ◌^◌, ◌≤◌, is_some}
use Rattle.std.proofs.Common.{refl}
use Rattle.std.specs.Coded.{Coded, code_by, coded×, coded_ℕ}
use Rattle.std.specs.FinMap as map
use Rattle.std.specs.FinMap.{get, insert, remove, empty}
use Rattle.own_model.specs.NatMap.{NatMap}
use Rattle.own_model.specs.HeapWindow.{heap_low, heap_high, largest_machine}
use Rattle.own_model.specs.Sound.{LieApart}
use Rattle.own_model.specs.Region.{Region, user_low, user_high}
use Rattle.region_map.specs.Regions.{coded_region}

-- a window of addresses: the first one, the one after the last, the regions in it and the number kept with each, by
-- their starts, and how many there are at most
pub record Window : Type 0 where
  pub low : ℕ
  pub high : ℕ
  pub regions : NatMap Region
  pub tags : NatMap ℕ
  pub most : ℕ

-- a window is stored as the tuple of its fields
abbrev pub coded_window : Coded Window
coded_window =
    code_by
    ((ℕ × ℕ) × ((NatMap Region × NatMap ℕ) × ℕ))
    (coded× (coded× coded_ℕ coded_ℕ) (coded× (coded× (map.code coded_ℕ coded_region) (map.code coded_ℕ coded_ℕ)) coded_ℕ))
    (λ w. ((w.low, w.high), ((w.regions, w.tags), w.most)))
    (λ p. record { low = p.0.0; high = p.0.1; regions = p.1.0.0; tags = p.1.0.1; most = p.1.1 })
    (λ _. refl)

-- nothing in it
abbrev pub fresh_window : ℕ → ℕ → ℕ → Window
fresh_window low high most = record { low = low; high = high; regions = empty; tags = empty; most = most }

-- a region more: of a dataspace, with so many pages, from an address on, and a number kept with it
abbrev pub window_with : Window → ℕ → ℕ → ℕ → ℕ → Window
window_with window ds pages tag address = record window {
  regions = insert window.regions address (record { of = ds; pages = pages });
  tags = insert window.tags address tag;
}

-- the region that starts at an address removed
abbrev pub window_without : Window → ℕ → Window
window_without window address = record window { regions = remove window.regions address; tags = remove window.tags address }

-- what is so of every window: the regions lie apart in it, a number is kept with each and with nothing else, and it is none
-- too large
pub record IsWindow (window : Window) : Type 0 where
  pub lie : LieApart window.low window.high window.regions
  pub tagged : (start : ℕ) → is_some (get window.tags start) ≡ is_some (get window.regions start)
  pub small : window.high ≤ 2 ^ 40

-- the user window, and the heap window of a machine of so many pages
pub record AreWindows (user heap : Window) (pages : ℕ) : Type 0 where
  pub user_sound : IsWindow user
  pub heap_sound : IsWindow heap
  pub user_from : user.low ≡ user_low
  pub user_to : user.high ≡ user_high
  pub heap_from : heap.low ≡ heap_low
  pub heap_to : heap.high ≡ heap_high pages
  pub few : pages ≤ largest_machine
