-- The minimum of the budgets that suffice, and the lowest budget from which on all suffice.
use Rattle.std.specs.Prelude.{◌≡◌, ◌≤◌, Bool, true, false, Option, Some, None}
use Rattle.own_model.specs.Amounts.{Amounts}

-- a budget is no more than another, in RAM and in capabilities
pub record IsWithin (most budget : Amounts) : Type 0 where
  pub ram : budget.ram ≤ most.ram
  pub caps : budget.caps ≤ most.caps

-- ---- the minimum

-- of the budgets within the most one is the minimum: it suffices, but none with less RAM, and with its RAM none with fewer
-- capabilities
pub record IsLeast (suffices : Amounts → Bool) (most least : Amounts) : Type 0 where
  pub within : IsWithin most least
  pub sufficient : suffices least ≡ true
  pub ram : (budget : Amounts) → IsWithin most budget → suffices budget ≡ true → least.ram ≤ budget.ram
  pub caps : (budget : Amounts) → IsWithin most budget → suffices budget ≡ true → budget.ram ≡ least.ram → least.caps ≤ budget.caps

-- the minimum, or nothing if none of these budgets suffices
abbrev pub HasLeast : (Amounts → Bool) → Amounts → Option Amounts → Type 0
HasLeast suffices most (Some least) = IsLeast suffices most least
HasLeast suffices most None = (budget : Amounts) → IsWithin most budget → suffices budget ≡ false

-- ---- the safe budget

-- all budgets from one on suffice, up to the most
abbrev pub AllSuffice : (Amounts → Bool) → Amounts → Amounts → Type 0
AllSuffice suffices most from = (budget : Amounts) → IsWithin most budget → IsWithin budget from → suffices budget ≡ true

-- of the budgets from which on all suffice one is the lowest: there is none with less RAM, and with its RAM none with fewer
-- capabilities
pub record IsSafe (suffices : Amounts → Bool) (most safe : Amounts) : Type 0 where
  pub within : IsWithin most safe
  pub from : AllSuffice suffices most safe
  pub ram : (budget : Amounts) → IsWithin most budget → AllSuffice suffices most budget → safe.ram ≤ budget.ram
  pub caps : (budget : Amounts) → IsWithin most budget → AllSuffice suffices most budget → budget.ram ≡ safe.ram → safe.caps ≤ budget.caps

-- the lowest of them, or nothing if the most doesn't suffice
abbrev pub HasSafe : (Amounts → Bool) → Amounts → Option Amounts → Type 0
HasSafe suffices most (Some safe) = IsSafe suffices most safe
HasSafe suffices most None = suffices most ≡ false
