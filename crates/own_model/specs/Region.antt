-- Regions: what is attached where, where it can be attached, and what a range of addresses finds.
use Rattle.std.specs.Prelude.{◌≡◌, ℕ, ◌+◌, ◌-◌, ◌*◌, ◌%◌, ◌≤◌, ◌<◌, ◌==◌, ◌&&◌, Bool, false, not, nat_lt, nat_le, if◌then◌else◌, Option, Some, None, is_some, is_none}
use Rattle.std.specs.List.{list_any, find, range_with_len}
use Rattle.std.specs.Option.{option_map, unwrap_or}
use Rattle.std.specs.FinMap.{get, entries, len}
use Rattle.trade_base.specs.declared.refusal.Refusal.{Refusal}
use Rattle.trade_base.specs.declared.refusal.Refusal.TheVariants.{TooManyRegions, RegionConflict, PageFault}
use Rattle.own_model.specs.NatMap.{NatMap, picked}

-- what is attached: of which thing (in a region map the dataspace's key, in an own state the selector), and how many pages.
-- Regions are kept by their start addresses
pub record Region : Type 0 where
  pub of : ℕ
  pub pages : ℕ

-- the user window, from its first address up to and without its end
abbrev pub user_low : ℕ
user_low = 0x10000000

abbrev pub user_high : ℕ
user_high = 0x20000000

-- the most user regions of a component
abbrev pub most_regions : ℕ
most_regions = 128

-- ---- where pages can be attached

-- two ranges of pages, each by its start, have an address in common
abbrev pub overlap : ℕ → ℕ → ℕ → ℕ → Bool
overlap a pages b others = nat_lt a (b + others * 4096) && nat_lt b (a + pages * 4096)

-- the pages at an address overlap a region
abbrev pub meets : NatMap Region → ℕ → ℕ → Bool
meets regions address pages = list_any (λ e. overlap e.0 e.1.pages address pages) (entries regions)

-- so many pages can be at an address: it is a multiple of a page, they lie within the window, and meet no region
abbrev pub can_attach : ℕ → ℕ → NatMap Region → ℕ → ℕ → Bool
can_attach low high regions pages address =
    (address % 4096 == 0 && (nat_le low address && nat_le (address + pages * 4096) high))
    && not (meets regions address pages)

-- the first gap of a window for so many pages: the least address at which they can be
unfoldable pub first_gap : ℕ → ℕ → NatMap Region → ℕ → Option ℕ
first_gap low high regions pages = find (can_attach low high regions pages) (range_with_len low (high + 1 - low))

-- the address of the first gap of the user window, if there is one
abbrev pub user_gap : NatMap Region → ℕ → ℕ
user_gap regions pages = unwrap_or (first_gap user_low user_high regions pages) 0

-- what `can_attach` tests
pub record IsPlace (low high : ℕ) (regions : NatMap Region) (pages address : ℕ) : Type 0 where
  pub aligned : address % 4096 ≡ 0
  pub from_low : low ≤ address
  pub to_high : address + pages * 4096 ≤ high
  pub free : (start : ℕ) (region : Region) → get regions start ≡ Some region → overlap start region.pages address pages ≡ false

-- the least place, or that there is none
abbrev pub IsFirstGap : ℕ → ℕ → NatMap Region → ℕ → Option ℕ → Type 0
IsFirstGap low high regions pages (Some a) =
    IsPlace low high regions pages a × ((b : ℕ) → b < a → ¬ IsPlace low high regions pages b)
IsFirstGap low high regions pages None = (b : ℕ) → ¬ IsPlace low high regions pages b

-- ---- what a range of addresses finds

-- an entry's region holds the whole range
abbrev pub holds : ℕ → ℕ → ℕ × Region → Bool
holds address length e = nat_le e.0 address && nat_le (address + length) (e.0 + e.1.pages * 4096)

-- the region that holds the whole range, with its start
abbrev pub region_at : NatMap Region → ℕ → ℕ → Option (ℕ × Region)
region_at regions address length = find (holds address length) (entries regions)

-- of what the region is that holds the whole range, and how far into it the range starts, in bytes
abbrev pub resolved : NatMap Region → ℕ → ℕ → Option (ℕ × ℕ)
resolved regions address length = option_map (λ e. (e.1.of, address - e.0)) (region_at regions address length)

-- the regions but those of one thing
abbrev pub without : ℕ → NatMap Region → NatMap Region
without of regions = picked (λ region. if region.of == of then None else Some region) regions

-- ---- why a call is refused, where so many user regions are the most

abbrev pub attach_refusal : ℕ → NatMap Region → ℕ → Option Refusal
attach_refusal most regions pages =
    if nat_le most (len regions) then Some TooManyRegions
    else (if is_none (first_gap user_low user_high regions pages) then Some RegionConflict else None)

abbrev pub attach_at_refusal : ℕ → NatMap Region → ℕ → ℕ → Option Refusal
attach_at_refusal most regions pages address =
    if nat_le most (len regions) then Some TooManyRegions
    else (if can_attach user_low user_high regions pages address then None else Some RegionConflict)

abbrev pub detach_refusal : NatMap Region → ℕ → Option Refusal
detach_refusal regions address = if is_some (get regions address) then None else Some PageFault
