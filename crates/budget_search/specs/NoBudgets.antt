-- Why the accounts of a list have no budgets.
use Rattle.std.specs.Prelude.{◌≡◌, ◌≢◌, ◌+◌, ◌&&◌, ℕ, Bool, false, List, nat_le, slice_get, Some}
use Rattle.own_model.specs.Amounts.{Amounts, more_of}
use Rattle.own_model.specs.Listed.{Listed}
use Rattle.own_model.specs.StartList.Kind.{Script}
use Rattle.list_parser.specs.Quota.{quota_fault}
use Rattle.list_parser.specs.declared.fault.BootFault.{BootFault}
use Rattle.list_parser.specs.declared.fault.BootFault.TheVariants.{BadConfig, NoMemory}
use Rattle.list_parser.specs.declared.fault.ConfigField.TheVariants.{Start}
use Rattle.budget_search.specs.Alike.{given_in, most_in, own_entry, reserve_in, IsFunded}
use Rattle.budget_search.specs.ReachedSessions.{followed_from, Reach, Reached, Sessions}
use Rattle.budget_search.specs.declared.component_line.ComponentLine.{ComponentLine}

-- the largest machine has so much for a component in addition to the component's reserve
abbrev pub has_room : Listed → ℕ → Amounts → Bool
has_room list component budget =
    nat_le (budget.ram + (reserve_in list component).ram) 16777216 && nat_le (budget.caps + (reserve_in list component).caps) 4096

-- it doesn't have a budget, and the list with this budget for the component alone doesn't boot, with this fault
pub record IsUnbooted (list : Listed) (component : ℕ) (budget : Amounts) (fault : BootFault) : Type 0 where
  pub lacks : has_room list component budget ≡ false
  pub machine : Listed
  pub funded : IsFunded machine list component budget
  pub fault_is : quota_fault machine ≡ Some fault

-- the largest machine doesn't have what the opening and the upgrades of one of these sessions donate in all, in addition to the
-- component's reserve
pub record HasNoRoom (list : Listed) (component : ℕ) (sessions : List Reached) (fault : BootFault) : Type 0 where
  pub place : ℕ
  pub session : Reached
  pub there : slice_get sessions place ≡ Some session
  pub fault_is : fault ≡ BadConfig Start
  pub lacks : has_room list component (more_of session.donation session.raised) ≡ false

-- this is one of the sessions that lines of a component open on the machine on which it has the most
pub record IsWithoutRoom (list : Listed) (component : ℕ) (fault : BootFault) : Type 0 where
  pub machine : Listed
  pub funded : IsFunded machine list component (most_in list component)
  pub steps : List ComponentLine
  pub sessions : Sessions
  pub reach : Reach steps 0 (followed_from machine component) sessions
  pub no_room : HasNoRoom list component sessions.opened fault

-- the accounts of a list have no budgets: in addition to the reserve of a script the largest machine doesn't have the budget that
-- the list gives the script, or not what the script donates for a session
pub data LacksBudgets (list : Listed) (fault : BootFault) : Type 0 where
  too_large : (component : ℕ) → (own_entry list component).kind ≡ Script → has_room list component (given_in list component) ≡ false →
      (budget : Amounts) → IsUnbooted list component budget fault → LacksBudgets list fault
  no_room : (component : ℕ) → (own_entry list component).kind ≡ Script → IsWithoutRoom list component fault → LacksBudgets list fault

-- a search for the budgets of a list's accounts ends with this fault: they have none, or the host is out of memory
abbrev pub IsSearchFault : Listed → BootFault → Type 0
IsSearchFault list fault = fault ≢ NoMemory → LacksBudgets list fault
