-- The heap window: where it lies, and the theorem that a machine's window always has a gap for what the machine can hold.
use Rattle.std.specs.Prelude.{◌≡◌, ℕ, ◌+◌, ◌*◌, ◌≤◌, Option, Some, IsSome, unwrap_or}
use Rattle.std.specs.FinMap.{get}
use Rattle.own_model.specs.NatMap.{NatMap, total}
use Rattle.own_model.specs.Region.{Region, first_gap}

-- the heap window of a machine of so many pages, from its first address up to and without its end: pages * (pages + 2) pages
abbrev pub heap_low : ℕ
heap_low = 0x100000000

abbrev pub heap_high : ℕ → ℕ
heap_high machine = heap_low + machine * (machine + 2) * 4096

-- the pages of the largest machine
abbrev pub largest_machine : ℕ
largest_machine = 4096

-- the first gap of a machine's heap window for so many pages
abbrev pub heap_gap : ℕ → NatMap Region → ℕ → Option ℕ
heap_gap machine regions pages = first_gap heap_low (heap_high machine) regions pages

-- the address of the first gap in the heap window of the largest machine, if there is one
abbrev pub heap_address : NatMap Region → ℕ → ℕ
heap_address regions pages = unwrap_or (heap_gap largest_machine regions pages) 0

-- the pages of all regions together
abbrev pub pages_of_all : NatMap Region → ℕ
pages_of_all regions = total (λ region. region.pages) regions

-- what a machine of so many pages can hold: each region has at least one page, and all together no more than the machine
pub record FitMachine (machine : ℕ) (regions : NatMap Region) : Type 0 where
  pub some : (start : ℕ) (region : Region) → get regions start ≡ Some region → 1 ≤ region.pages
  pub few : pages_of_all regions ≤ machine

-- ---- theorems

-- whatever regions a machine can hold, wherever they lie, its heap window has a gap for as many pages as it has
abbrev pub HeapHasGap : Type 0
HeapHasGap =
    (machine : ℕ) (regions : NatMap Region) (pages : ℕ) → FitMachine machine regions → pages ≤ machine →
    IsSome (heap_gap machine regions pages)

-- and the first gap is the same in the heap window of a larger machine
abbrev pub HeapGapsAgree : Type 0
HeapGapsAgree =
    (machine larger : ℕ) (regions : NatMap Region) (pages : ℕ) → FitMachine machine regions → pages ≤ machine →
    machine ≤ larger → heap_gap machine regions pages ≡ heap_gap larger regions pages
