-- Components of start lists, and lists in which one has another budget.
use Rattle.std.specs.Prelude.{◌≡◌, ◌≢◌, ◌+◌, ◌-◌, ◌*◌, ◌≤◌, ℕ, Some}
use Rattle.std.specs.List.{slice_get}
use Rattle.std.specs.Option.{option_map, unwrap_or}
use Rattle.own_model.specs.Amounts.{Amounts, no_amounts}
use Rattle.own_model.specs.Listed.{Listed, ListedEntry, reserve_of, start_list_of}
use Rattle.own_model.specs.OwnState.{OwnState}
use Rattle.own_model.specs.StartList.{Entry, entries_of, start_states}
use Rattle.own_model.specs.Transcript.{entry_at, state_at}
use Rattle.list_parser.specs.Budgets.{bare, but_budgets, with_budget}

-- a component of a list, and how it starts
abbrev pub own_entry : Listed → ℕ → Entry
own_entry list component = entry_at (entries_of (start_list_of list)) component

abbrev pub own_state : Listed → ℕ → OwnState
own_state list component = state_at (start_states (start_list_of list)) component

-- ---- what a list gives a component

-- the reserve of a component at the start: what the list gives a script, and otherwise nothing
abbrev pub reserve_in : Listed → ℕ → Amounts
reserve_in list component = unwrap_or (option_map reserve_of (slice_get list.entries component)) no_amounts

-- the budget that a list gives a component
abbrev pub budget_at : ListedEntry → Amounts
budget_at entry = record { ram = entry.ram; caps = entry.caps }

abbrev pub given_in : Listed → ℕ → Amounts
given_in list component = unwrap_or (option_map budget_at (slice_get list.entries component)) no_amounts

-- the most that a component can have in addition to its reserve: the largest machine has 4096 pages of 4096 bytes, and 4096
-- capabilities
abbrev pub most_in : Listed → ℕ → Amounts
most_in list component = record {
  ram = 16777216 - (reserve_in list component).ram;
  caps = 4096 - (reserve_in list component).caps;
}

-- ---- lists with another budget

-- a list is another but for budgets and reserves, and a component is the one of the other with this budget
pub record IsFunded (machine list : Listed) (component : ℕ) (budget : Amounts) : Type 0 where
  pub alike : but_budgets machine ≡ but_budgets list
  pub given : slice_get machine.entries component ≡ slice_get (with_budget list component budget).entries component

-- nothing but a component has a budget or a reserve, and it has no more than this in all, of which the machine has as much
pub record HasAlone (list : Listed) (component : ℕ) (most : Amounts) : Type 0 where
  pub others : (place : ℕ) (entry : ListedEntry) → place ≢ component → slice_get list.entries place ≡ Some entry → entry ≡ bare entry
  pub own_ram : (entry : ListedEntry) → slice_get list.entries component ≡ Some entry → entry.ram + (reserve_of entry).ram ≤ most.ram
  pub own_caps : (entry : ListedEntry) → slice_get list.entries component ≡ Some entry → entry.caps + (reserve_of entry).caps ≤ most.caps
  pub ram : most.ram ≤ list.pages * 4096
  pub caps : most.caps ≤ list.caps
