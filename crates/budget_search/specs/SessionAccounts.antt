-- The accounts of the sessions that a component's lines open.
use Rattle.std.specs.Prelude.{◌≡◌, ℕ, ◌+◌, ◌-◌, true, List, [], ◌∷◌, ◌++◌, is_some, slice_get, Option, Some, None}
use Rattle.std.specs.List.{AllByRecursion}
use Rattle.own_model.specs.Amounts.{Amounts, no_amounts}
use Rattle.own_model.specs.Listed.{Listed}
use Rattle.own_model.specs.Session.{Session}
use Rattle.list_parser.specs.Budgets.{changed_at}
use Rattle.budget_meter.specs.Needs.{amounts_of}
use Rattle.budget_meter.specs.SessionRuns.{opened_in_want}
use Rattle.budget_search.specs.Alike.{most_in, own_entry, IsFunded}
use Rattle.budget_search.specs.AmpleCalls.{of_word}
use Rattle.budget_search.specs.BudgetIntervals.{lowest_of, safe_of, HasRunLines, IsFoundAlike}
use Rattle.budget_search.specs.LineNumbers.{has_number}
use Rattle.budget_search.specs.OpenedSessions.{opened_with, sent_at, suffices_of, AreExactOf}
use Rattle.budget_search.specs.ReachedSessions.{followed_from, Reach, Reached, Sessions}
use Rattle.budget_search.specs.SessionLines.{session_lines}
use Rattle.budget_search.specs.Steps.{number_at}
use Rattle.budget_search.specs.Sufficient.{HasLeast, HasSafe}
use Rattle.budget_search.specs.declared.account_budgets.AccountBudgets.{AccountBudgets}
use Rattle.budget_search.specs.declared.account_budgets.SessionKey.{SessionKey}
use Rattle.budget_search.specs.declared.component_line.ComponentLine.{ComponentLine}
use Rattle.budget_search.specs.declared.line_numbers.LineNumbers.{LineNumbers}
use Rattle.budget_search.specs.declared.session_accounts.SessionAccounts.{SessionAccounts}

-- ---- the sessions

-- the sessions that a component's lines open if every account is ample, in the order of their openings. The component makes its
-- calls on a machine of the list, except for budgets and reserves, on which it has the most that it can have
pub record AreOpened (list : Listed) (component : ℕ) (steps : List ComponentLine) (opened : List Reached) : Type 0 where
  pub machine : Listed
  pub ample : IsFunded machine list component (most_in list component)
  pub end : Sessions
  pub reach : Reach steps 0 (followed_from machine component) end
  pub these : opened ≡ end.opened

-- ---- the account of a session

-- the most that the opening of a session can donate: what its component can have, less what the session's upgrades donate
abbrev pub most_for : Listed → ℕ → Reached → Amounts
most_for list component one = record {
  ram = (most_in list component).ram - one.raised.ram;
  caps = (most_in list component).caps - one.raised.caps;
}

-- an account is that of one session, which it names by its selector and the number of the line that opens it. It is given the
-- donation of that line, under which a line is refused exactly if the session's run is short of quota. It has no reserve. It has
-- exactly the donations with which the session opens and its run isn't short of quota, up to the most, with their minimum and
-- their safe budget, and the lines that runs show: the one that is short of quota under the donation that is given, those below its
-- intervals, and those that are left out
pub record IsAccountOf (list : Listed) (component : ℕ) (steps : List ComponentLine) (one : Reached) (account : AccountBudgets) : Type 0 where
  pub same : account.component ≡ component
  pub key : account.session ≡ Some (record { selector = one.selector; line = number_at steps one.opening })
  pub count : account.count ≡ 1
  pub given : amounts_of account.given.budget ≡ one.donation
  pub reserve : amounts_of account.reserve ≡ no_amounts
  pub session : Session
  pub opens : opened_with (own_entry list component) (slice_get steps one.opening) ≡ Some session
  pub refused : is_some account.given.refused ≡ opened_in_want (sent_at steps one.places) session one.donation
  pub line : account.given.refused ≡ (session_lines steps one.opening one.places session one.donation).refused
  pub exact : AreExactOf (sent_at steps one.places) session (most_for list component one).caps (most_for list component one).ram
      account.found.rows.items
  pub least : HasLeast (suffices_of (sent_at steps one.places) session) (most_for list component one)
      (lowest_of account.found.rows.items)
  pub safe : HasSafe (suffices_of (sent_at steps one.places) session) (most_for list component one)
      (safe_of account.found.rows.items)
  pub lines : HasRunLines (session_lines steps one.opening one.places session) (most_for list component one) account.found

-- ---- sessions of one line that are alike

-- two sessions are opened by one line of the scenario
abbrev pub AreOfLine : Option SessionKey → Option SessionKey → Type 0
AreOfLine (Some one) (Some other) = one.line ≡ other.line
AreOfLine one other = ⊥

-- and a report has the same of both, except for their selectors
pub record IsAlike (one other : AccountBudgets) : Type 0 where
  pub line : AreOfLine one.session other.session
  pub same : one.component ≡ other.component
  pub given : one.given ≡ other.given
  pub found : IsFoundAlike one.found other.found

abbrev pub NoneIsAlike : AccountBudgets → List AccountBudgets → Type 0
NoneIsAlike account others = AllByRecursion (λ other. IsAlike other account → ⊥) others

-- an account with one session more, at most 2^64 - 1
abbrev pub with_one_more : AccountBudgets → AccountBudgets
with_one_more account = record account { count = of_word (account.count + 1) }

-- a session's account is counted with one that is alike; if there is none, it comes after the others
pub data IsCounted (account : AccountBudgets) (old new : List AccountBudgets) : Type 0 where
  with_alike : (place : ℕ) (other : AccountBudgets) → slice_get old place ≡ Some other → IsAlike other account →
      new ≡ changed_at with_one_more old place → IsCounted account old new
  by_itself : NoneIsAlike account old → new ≡ old ++ account ∷ [] → IsCounted account old new

-- the accounts of sessions are counted, one session after another
abbrev pub AreCounted : Listed → ℕ → List ComponentLine → List Reached → List AccountBudgets → List AccountBudgets → Type 0
AreCounted list component steps [] old new = new ≡ old
AreCounted list component steps (one ∷ rest) old new =
    (account : AccountBudgets)
    × (IsAccountOf list component steps one account
    × ((next : List AccountBudgets) × (IsCounted account old next × AreCounted list component steps rest next new)))

-- the accounts of the sessions that a script's lines open, in the order of their first openings
pub record AreSessionAccounts (list : Listed) (component : ℕ) (steps : List ComponentLine) (accounts : List AccountBudgets) : Type 0 where
  pub opened : List Reached
  pub opened_are : AreOpened list component steps opened
  pub counted : AreCounted list component steps opened [] accounts

-- ---- the lines of accounts

-- the number of the line that opens a session is among these
abbrev pub HasLine : LineNumbers → Option SessionKey → Type 0
HasLine numbers None = ⊥
HasLine numbers (Some key) = has_number numbers key.line ≡ true

abbrev pub HaveLines : SessionAccounts → Type 0
HaveLines accounts = AllByRecursion (λ account. HasLine accounts.lines account.session) accounts.accounts.items
