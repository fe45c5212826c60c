-- A start list with the budgets of a report.
use Rattle.std.specs.Prelude.{◌≡◌, ℕ, ◌-◌, ◌&&◌, ◌||◌, ◌==◌, Bool, true, false, List, length, codes, max, is_some, Option, Some, None, Ok, Err}
use Rattle.std.specs.List.{list_all, slice_get}
use Rattle.std.specs.Option.{option_map_or}
use Rattle.std.specs.Str.{bytes_eq}
use Rattle.own_model.specs.Amounts.{Amounts}
use Rattle.own_model.specs.Listed.{Listed, start_list_of}
use Rattle.own_model.specs.StartList.{Boots}
use Rattle.list_parser.specs.Quota.{quota_fault}
use Rattle.list_parser.specs.StartText.{list_in}
use Rattle.list_parser.specs.declared.fault.BootFault.{BootFault}
use Rattle.list_parser.specs.declared.fault.BootFault.TheVariants.{BadConfig}
use Rattle.list_parser.specs.declared.fault.ConfigField.TheVariants.{Start}
use Rattle.budget_search.specs.BudgetIntervals.{chosen_of}
use Rattle.budget_search.specs.declared.account_budgets.AccountBudgets.{AccountBudgets}
use Rattle.budget_search.specs.declared.budget_intervals.BudgetChoice.{BudgetChoice}
use Rattle.budget_least.specs.MemberValues.{text_with, NewValue, Step}
use Rattle.budget_least.specs.MemberValues.Step.{Member, Element}
use Rattle.budget_least.specs.Report.{sum_of, HasSmallestMachine}
use Rattle.budget_least.specs.declared.machine_size.MachineSize.{MachineSize}
use Rattle.budget_least.specs.declared.report.BudgetReport.{BudgetReport}

-- the entry at a place has this budget
abbrev pub is_budget_at : Listed → ℕ → Amounts → Bool
is_budget_at list place budget = option_map_or (λ entry. entry.ram == budget.ram && entry.caps == budget.caps) (slice_get list.entries place) false

-- the entry of an account has the budget that is written, if there is one and the account isn't a session's
abbrev pub has_budget : Listed → BudgetChoice → AccountBudgets → Bool
has_budget list choice account =
    is_some account.session || option_map_or (is_budget_at list account.component) (chosen_of choice account.found.rows.items) true

-- the machine has this size
abbrev pub has_size : Listed → MachineSize → Bool
has_size list size = list.pages == size.pages && list.caps == size.caps

-- the smallest machine, but no smaller than the list's; without one that of the list
abbrev pub size_of : Listed → Option MachineSize → MachineSize
size_of list None = record { pages = list.pages; caps = list.caps }
size_of list (Some size) = record { pages = max size.pages list.pages; caps = max size.caps list.caps }

-- the members that are written: budgets of entries, and the size of the machine
abbrev pub is_size_name : List ℕ → Bool
is_size_name name = bytes_eq name (codes "quantum") || bytes_eq name (codes "caps") || bytes_eq name (codes "pages")

abbrev pub is_size_step : Step → Bool
is_size_step (Member name) = is_size_name name
is_size_step (Element place) = false

abbrev pub is_size : NewValue → Bool
is_size value = option_map_or is_size_step (slice_get value.steps (length value.steps - 1)) false

abbrev pub AreSizes : List NewValue → Type 0
AreSizes values = list_all is_size values ≡ true

-- only budgets and sizes of a text change
pub record IsResized (text written : List ℕ) : Type 0 where
  pub values : List NewValue
  pub sizes : AreSizes values
  pub written_is : written ≡ text_with values text

-- a text is another one except for budgets and sizes, and is a start list with the budgets of a report, on a machine that is large
-- enough if one is. If one is, the list boots
pub record IsWritten (report : BudgetReport) (text written : List ℕ) : Type 0 where
  pub resized : IsResized text written
  pub list : Listed
  pub is_read : list_in written ≡ Ok list
  pub budgets : list_all (has_budget list report.choice) report.accounts.items ≡ true
  pub smallest : Option MachineSize
  pub smallest_is : HasSmallestMachine (sum_of report) smallest
  pub size : has_size list (size_of report.list.now smallest) ≡ true
  pub boots : is_some smallest ≡ true → Boots (start_list_of list)

-- a text has no list of a report's budgets, with this fault: with them it is no start list; or it is the text of another list; or
-- it doesn't boot, though a machine is large enough
pub data LacksList (report : BudgetReport) (text : List ℕ) (fault : BootFault) : Type 0 where
  unread : (written : List ℕ) → IsResized text written → list_in written ≡ Err fault → LacksList report text fault
  other : (written : List ℕ) (list : Listed) (smallest : Option MachineSize) → IsResized text written → list_in written ≡ Ok list →
      HasSmallestMachine (sum_of report) smallest →
      list_all (has_budget list report.choice) report.accounts.items && has_size list (size_of report.list.now smallest) ≡ false →
      fault ≡ BadConfig Start → LacksList report text fault
  unbooted : (written : List ℕ) (list : Listed) → IsResized text written → list_in written ≡ Ok list → quota_fault list ≡ Some fault →
      LacksList report text fault
