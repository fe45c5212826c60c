-- The exit status of `least`.
use Rattle.std.specs.Prelude.{◌≡◌, ℕ, ◌==◌, ◌&&◌, Bool, List, is_some, length, if◌then◌else◌, Option, Ok}
use Rattle.std.specs.List.{list_all}
use Rattle.own_model.specs.Listed.{Listed}
use Rattle.line_rounds.specs.Unfolding.{UnfoldedText}
use Rattle.line_steps.specs.RunPosition.{first_position}
use Rattle.list_parser.specs.StartText.{list_in}
use Rattle.list_parser.specs.declared.fault.BootFault.{BootFault}
use Rattle.budget_search.specs.BudgetIntervals.{chosen_of}
use Rattle.budget_search.specs.declared.account_budgets.AccountBudgets.{AccountBudgets}
use Rattle.budget_search.specs.declared.budget_intervals.BudgetChoice.{BudgetChoice}
use Rattle.budget_search.specs.declared.budget_intervals.BudgetChoice.TheVariants.{Minimum, Safe}
use Rattle.budget_search.specs.NoBudgets.{LacksBudgets}
use Rattle.budget_least.specs.LineErrors.{HasErrors}
use Rattle.budget_least.specs.Report.{accounts_of, unmeasured_of}
use Rattle.budget_least.specs.ReportOf.{IsReportOf}
use Rattle.budget_least.specs.declared.report.BudgetQuery.{BudgetQuery}
use Rattle.budget_least.specs.declared.report.BudgetReport.{BudgetReport}
use Rattle.cli_options.specs.declared.command_options.LeastOptions.{LeastOptions}
use Rattle.cli_base.specs.Given.{names_of}
use Rattle.cli_base.specs.Texts.{bytes_of}
use Rattle.cli_base.specs.Unfolding.{EndsOnText}
use Rattle.cli_base.specs.declared.machine.Machine.{Machine}
use Rattle.cli_base.specs.declared.settings.Settings.{Settings}

-- an account has a budget that is written
abbrev pub is_budgeted : BudgetChoice → AccountBudgets → Bool
is_budgeted choice account = is_some (chosen_of choice account.found.rows.items)

abbrev pub written_choice : LeastOptions → BudgetChoice
written_choice asked = if asked.safe then Safe else Minimum

-- 0 exactly if no line has an error, each line is measured, and each account has a budget; else 3
abbrev pub least_status : LeastOptions → ℕ → BudgetReport → ℕ
least_status asked errors report =
    if errors == 0 && (length (unmeasured_of report) == 0 && list_all (is_budgeted (written_choice asked)) (accounts_of report)) then 0 else 3

-- a question is about these lines on the list of a machine, with the budgets and the donations that the command line asks for
abbrev pub Asks : LeastOptions → Machine → UnfoldedText → BudgetQuery → Type 0
Asks asked machine lines question =
    (list_in (bytes_of machine.text) ≡ Ok question.list.now) × (question.scenario.now ≡ lines.text)
    × (question.choice ≡ written_choice asked) × (question.as_donated ≡ asked.as_donated)

-- the status is that of the report on such a question, with the values of names, and of the errors under its budgets
abbrev pub EndsMeasured : LeastOptions → Settings → Machine → List ℕ → UnfoldedText → ℕ → Type 0
EndsMeasured asked settings machine text lines status =
    (question : BudgetQuery) × Asks asked machine lines question
    × ((report : BudgetReport) × IsReportOf question (first_position (names_of settings) lines.marks) report
    × ((errors : ℕ) × HasErrors report lines.text (first_position (names_of settings) lines.marks) errors
    × (status ≡ least_status asked errors report)))

-- the accounts of a machine's list have no budgets, for a reason other than that the host is out of memory
abbrev pub LacksReport : Machine → Type 0
LacksReport machine = (list : Listed) × (list_in (bytes_of machine.text) ≡ Ok list) × ((fault : BootFault) × LacksBudgets list fault)

-- `least` ends so
abbrev pub BudgetsEnd : (List ℕ → Option (List ℕ)) → LeastOptions → Settings → ℕ → Type 0
BudgetsEnd texts asked settings status =
    EndsOnText texts settings asked.machine asked.scenario.now LacksReport (EndsMeasured asked settings) status
