-- The accounts of all components of a list, for their lines.
use Rattle.std.specs.Prelude.{◌≡◌, ◌≢◌, ◌<◌, ⊤, ℕ, zero, suc, false, List, [], ◌∷◌, ◌++◌, length, Vec, Option, Some, None}
use Rattle.std.specs.List.{slice_get}
use Rattle.std.specs.Option.{option_map, unwrap_or}
use Rattle.own_model.specs.Listed.{Listed}
use Rattle.own_model.specs.StartList.Kind.{Script}
pub use Rattle.budget_meter.specs.Needs.{amounts_of}
use Rattle.budget_search.specs.AccountNeeds.{IsIdle}
use Rattle.budget_search.specs.Alike.{given_in, most_in, own_entry, reserve_in}
use Rattle.budget_search.specs.BudgetIntervals.{lowest_of, safe_of, HasRunLines}
use Rattle.budget_search.specs.OwnLines.{lines_as_written, lines_from}
use Rattle.budget_search.specs.Own.{suffices_with, AreExact}
use Rattle.budget_search.specs.SessionAccounts.{AreSessionAccounts}
use Rattle.budget_search.specs.Sufficient.{HasLeast, HasSafe}
use Rattle.budget_search.specs.declared.account_budgets.AccountBudgets.{AccountBudgets}
use Rattle.budget_search.specs.declared.component_line.ComponentLine.{ComponentLine}
use Rattle.budget_search.specs.declared.script_search.ScriptSearch.{ScriptSearch}
use Rattle.budget_search.specs.declared.script_search.ScriptSessions.{ScriptSessions}
use Rattle.budget_least.specs.InitNeeds.{is_init_at}

-- the lines of the component at a place
abbrev pub steps_at : {Z : Type 0} → List (Vec ComponentLine Z) → ℕ → List ComponentLine
steps_at steps component = unwrap_or (option_map (λ lines. lines.items) (slice_get steps component)) []

-- an account has exactly the budgets under which the run of a script's lines isn't short of quota, up to the largest machine's less
-- the script's reserve. Its minimum and its safe budget are those of these. It has the line that is short of quota under the
-- budget of the list, with the donations that the scenario writes, those below the intervals, and those that are left out
pub record IsMeasured (list : Listed) (component : ℕ) (steps : List ComponentLine) (account : AccountBudgets) : Type 0 where
  pub reserve : amounts_of account.reserve ≡ reserve_in list component
  pub refused : account.given.refused ≡ (lines_as_written list component steps (given_in list component)).refused
  pub exact : AreExact list component steps (most_in list component).caps (most_in list component).ram account.found.rows.items
  pub least : HasLeast (suffices_with list component steps) (most_in list component) (lowest_of account.found.rows.items)
  pub safe : HasSafe (suffices_with list component steps) (most_in list component) (safe_of account.found.rows.items)
  pub lines : HasRunLines (lines_from list component steps) (most_in list component) account.found

-- an account is the own account of a component with these lines, with the budget of the list: that of a script is measured, and
-- that of a server makes no calls
pub record IsOwnOf (list : Listed) (component : ℕ) (steps : List ComponentLine) (account : AccountBudgets) : Type 0 where
  pub same : account.component ≡ component
  pub own : account.session ≡ None
  pub given : amounts_of account.given.budget ≡ given_in list component
  pub script : (own_entry list component).kind ≡ Script → IsMeasured list component steps account
  pub server : (own_entry list component).kind ≢ Script → is_init_at list component ≡ false → IsIdle component (given_in list component) account

-- these are the accounts of the sessions that a script's lines open; another component has none
pub record AreSessionsOf (list : Listed) (component : ℕ) (steps : List ComponentLine) (accounts : List AccountBudgets) : Type 0 where
  pub script : (own_entry list component).kind ≡ Script → AreSessionAccounts list component steps accounts
  pub other : (own_entry list component).kind ≢ Script → accounts ≡ []

-- the accounts of a component: those of its sessions, and then its own
pub record AreAccountsOf (list : Listed) (component : ℕ) (steps : List ComponentLine) (accounts : List AccountBudgets) : Type 0 where
  pub sessions : List AccountBudgets
  pub own : AccountBudgets
  pub these : accounts ≡ sessions ++ own ∷ []
  pub sessions_are : AreSessionsOf list component steps sessions
  pub own_is : IsOwnOf list component steps own

-- some accounts, and then others
pub record AreJoined (Before After : List AccountBudgets → Type 0) (accounts : List AccountBudgets) : Type 0 where
  pub before : List AccountBudgets
  pub after : List AccountBudgets
  pub these : accounts ≡ before ++ after
  pub before_are : Before before
  pub after_are : After after

-- the accounts of so many components of a list, in its order
abbrev pub AreAccounts : {Z : Type 0} → Listed → List (Vec ComponentLine Z) → ℕ → List AccountBudgets → Type 0
AreAccounts list steps zero accounts = accounts ≡ []
AreAccounts list steps (suc component) accounts =
    AreJoined (λ before. AreAccounts list steps component before) (λ its. AreAccountsOf list component (steps_at steps component) its) accounts

-- ---- sessions before their components' own accounts

-- a search is for a script with the budget that its list gives it
pub record IsGiven (search : ScriptSearch) : Type 0 where
  pub there : search.component < length search.list.now.entries
  pub script : (own_entry search.list.now search.component).kind ≡ Script
  pub given : amounts_of search.given ≡ given_in search.list.now search.component

-- what is found of a script's sessions: their accounts, and the line of the script that is short of quota under its budget
pub record AreFoundFor (list : Listed) (component : ℕ) (steps : List ComponentLine) (found : ScriptSessions) : Type 0 where
  pub script : (own_entry list component).kind ≡ Script
  pub accounts : AreSessionAccounts list component steps found.accounts.items
  pub refused : found.given.refused ≡ (lines_as_written list component steps (given_in list component)).refused

-- the sessions of a script, or none of another component
abbrev pub IsSessionsOf : Listed → ℕ → List ComponentLine → Option ScriptSessions → Type 0
IsSessionsOf list component steps None = (own_entry list component).kind ≢ Script
IsSessionsOf list component steps (Some found) = AreFoundFor list component steps found

-- those of the components from a place on
abbrev pub AreSessionsFrom : {Z : Type 0} → Listed → List (Vec ComponentLine Z) → ℕ → List (Option ScriptSessions) → Type 0
AreSessionsFrom list steps component [] = ⊤
AreSessionsFrom list steps component (sessions ∷ rest) =
    IsSessionsOf list component (steps_at steps component) sessions × AreSessionsFrom list steps (suc component) rest
