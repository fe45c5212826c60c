-- The smallest machine on which a list boots.
use Rattle.std.specs.Prelude.{◌≤◌, ◌*◌, ℕ, Option, Some, None}
use Rattle.own_model.specs.Amounts.{Amounts}
use Rattle.budget_least.specs.declared.machine_size.MachineSize.{MachineSize}

-- a machine of so many pages of 4096 bytes, and so many capabilities, covers what its init hands out. A machine has 16 to 4096 of
-- each
pub record Covers (sum : Amounts) (pages caps : ℕ) : Type 0 where
  pub some_pages : 16 ≤ pages
  pub most_pages : pages ≤ 4096
  pub some_caps : 16 ≤ caps
  pub most_caps : caps ≤ 4096
  pub ram : sum.ram ≤ pages * 4096
  pub enough_caps : sum.caps ≤ caps

-- a size is the smallest
pub record IsSmallest (sum : Amounts) (size : MachineSize) : Type 0 where
  pub covers : Covers sum size.pages size.caps
  pub pages : (pages caps : ℕ) → Covers sum pages caps → size.pages ≤ pages
  pub caps : (pages caps : ℕ) → Covers sum pages caps → size.caps ≤ caps

-- the smallest size, or nothing if no machine is large enough
abbrev pub HasSmallest : Amounts → Option MachineSize → Type 0
HasSmallest sum (Some size) = IsSmallest sum size
HasSmallest sum None = (pages caps : ℕ) → ¬ Covers sum pages caps
