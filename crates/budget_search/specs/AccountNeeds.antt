-- Accounts that need nothing, or so much for others.
use Rattle.std.specs.Prelude.{◌≡◌, ℕ, false, List, [], ◌∷◌, nat_eq, if◌then◌else◌, Option, Some, None}
use Rattle.own_model.specs.Amounts.{Amounts, no_amounts}
use Rattle.budget_meter.specs.Needs.{amounts_of}
use Rattle.budget_search.specs.declared.account_budgets.AccountBudgets.{AccountBudgets}
use Rattle.budget_search.specs.declared.budget_intervals.BudgetInterval.{BudgetInterval}
use Rattle.budget_search.specs.declared.budget_intervals.Likeness.TheVariants.{Same}

-- the intervals of an account that needs so much for others
abbrev pub need_rows : Option Amounts → List BudgetInterval
need_rows None = []
need_rows (Some need) = record { ram_from = need.ram; ram_below = None; caps_from = need.caps; likeness = Same } ∷ []

-- the accounts of a component have the intervals of what it needs, and all else of each account stays; so do other accounts
pub record IsChanged (component : ℕ) (need : Option Amounts) (old new : AccountBudgets) : Type 0 where
  pub same : new.component ≡ old.component
  pub session : new.session ≡ old.session
  pub reserve : new.reserve ≡ old.reserve
  pub count : new.count ≡ old.count
  pub given : new.given ≡ old.given
  pub gaps : new.found.holes.items ≡ old.found.holes.items
  pub left_out : new.found.left_out.items ≡ old.found.left_out.items
  pub refused : new.found.refused ≡ old.found.refused
  pub rows : new.found.rows.items ≡ (if nat_eq old.component component then need_rows need else old.found.rows.items)
  pub others : nat_eq old.component component ≡ false → new ≡ old

-- the own account of a component that makes no calls, with the budget that is given: every budget suffices, and no line is short
-- of quota or left out
pub record IsIdle (component : ℕ) (given : Amounts) (account : AccountBudgets) : Type 0 where
  pub same : account.component ≡ component
  pub own : account.session ≡ None
  pub count : account.count ≡ 1
  pub given_is : amounts_of account.given.budget ≡ given
  pub accepted : account.given.refused ≡ None
  pub reserve : amounts_of account.reserve ≡ no_amounts
  pub rows : account.found.rows.items ≡ need_rows (Some no_amounts)
  pub gaps : account.found.holes.items ≡ []
  pub left_out : account.found.left_out.items ≡ []
  pub refused : account.found.refused ≡ None
