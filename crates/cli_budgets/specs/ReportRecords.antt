-- A report as records.
use Rattle.std.specs.Prelude.{◌≡◌, ℕ, List, [], ◌∷◌, ◌++◌, codes, if◌then◌else◌, map, Option}
use Rattle.std.specs.List.{filter, flat_map, slice_get}
use Rattle.std.specs.Option.{option_map, option_map_or}
use Rattle.serde_json.specs.Data.{Data}
use Rattle.list_parser.specs.Depth.{runs_server}
use Rattle.own_model.specs.Amounts.{Amounts}
use Rattle.own_model.specs.Listed.{ListedEntry}
use Rattle.view_records.specs.JsonTexts.{list_data}
use Rattle.view_records.specs.Records.{Record, text, number, list, if_number, null_if_absent}
use Rattle.budget_search.specs.BudgetIntervals.{safe_of}
use Rattle.budget_search.specs.declared.account_budgets.AccountBudgets.{AccountBudgets}
use Rattle.budget_search.specs.declared.budget_intervals.BudgetInterval.{BudgetInterval}
use Rattle.budget_least.specs.Report.{accounts_of, list_of, sum_of, unmeasured_of, HasSmallestMachine}
use Rattle.budget_least.specs.Unmeasured.{is_named_with, reason_text}
use Rattle.budget_least.specs.declared.machine_size.MachineSize.{MachineSize}
use Rattle.budget_least.specs.declared.report.BudgetReport.{BudgetReport}
use Rattle.budget_least.specs.declared.unmeasured_line.UnmeasuredLine.{UnmeasuredLine}

-- the lines of an account that aren't measured
abbrev pub named_lines : AccountBudgets → List UnmeasuredLine → List UnmeasuredLine
named_lines account lines = filter (is_named_with account) lines

-- a line that isn't measured, with the reason
abbrev pub unmeasured_record : UnmeasuredLine → Record
unmeasured_record line = (codes "line", number line.number) ∷ (codes "reason", text (reason_text line)) ∷ []

-- an interval of an account, with its component's path and its lines that aren't measured
abbrev pub interval_record : List ℕ → Data → AccountBudgets → BudgetInterval → Record
interval_record path unmeasured account row =
    (codes "kind", text (codes "interval"))
    ∷ (codes "component", text path)
    ∷ (codes "session", null_if_absent (if_number (option_map (λ key. key.selector) account.session)))
    ∷ (codes "line", null_if_absent (if_number (option_map (λ key. key.line) account.session)))
    ∷ (codes "ram_from", number row.ram_from)
    ∷ (codes "ram_below", null_if_absent (if_number row.ram_below))
    ∷ (codes "caps_from", number row.caps_from)
    ∷ (codes "unmeasured", list unmeasured)
    ∷ (codes "safe_ram", null_if_absent (if_number (option_map (λ budget. budget.ram) (safe_of account.found.rows.items))))
    ∷ (codes "safe_caps", null_if_absent (if_number (option_map (λ budget. budget.caps) (safe_of account.found.rows.items))))
    ∷ (codes "count", number account.count) ∷ []

-- the intervals of an account; a server has none
abbrev pub records_for : BudgetReport → AccountBudgets → ListedEntry → List Record
records_for report account entry =
    if runs_server entry.binary then []
    else map (interval_record entry.path (list_data (map unmeasured_record (named_lines account (unmeasured_of report)))) account)
    account.found.rows.items

abbrev pub account_records : BudgetReport → AccountBudgets → List Record
account_records report account =
    option_map_or (records_for report account) (slice_get (list_of report).entries account.component) []

-- the sum of the budgets that are written, and the smallest machine for them
abbrev pub machine_record : Option Amounts → Option MachineSize → Record
machine_record sum size =
    (codes "kind", text (codes "machine"))
    ∷ (codes "ram", null_if_absent (if_number (option_map (λ a. a.ram) sum)))
    ∷ (codes "caps", null_if_absent (if_number (option_map (λ a. a.caps) sum)))
    ∷ (codes "machine_pages", null_if_absent (if_number (option_map (λ (s : MachineSize). s.pages) size)))
    ∷ (codes "machine_caps", null_if_absent (if_number (option_map (λ (s : MachineSize). s.caps) size))) ∷ []

-- these are the intervals of all accounts, and then the machine, which is the smallest one
pub record IsReportRecords (report : BudgetReport) (records : List Record) : Type 0 where
  pub machine : Option MachineSize
  pub smallest : HasSmallestMachine (sum_of report) machine
  pub these : records ≡ flat_map (account_records report) (accounts_of report) ++ machine_record (sum_of report) machine ∷ []
