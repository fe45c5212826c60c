-- What `least` prints: the report in the form that is asked for.
use Rattle.std.specs.Prelude.{◌≡◌, ℕ, ◌==◌, ◌&&◌, ⊤, List, [], not, if◌then◌else◌}
use Rattle.budget_least.specs.WrittenList.{IsWritten}
use Rattle.budget_least.specs.WrittenScenario.{scenario_of}
use Rattle.budget_least.specs.declared.report.BudgetReport.{BudgetReport}
use Rattle.cli_options.specs.declared.command_options.LeastOptions.{LeastOptions}
use Rattle.view_records.specs.JsonTexts.{json_text}
use Rattle.view_records.specs.Records.{Record}
use Rattle.cli_budgets.specs.ReportRecords.{IsReportRecords}
use Rattle.cli_budgets.specs.declared.least_command.BudgetFormat.{BudgetFormat}
use Rattle.cli_budgets.specs.declared.least_command.BudgetFormat.TheVariants.{Text, Records, List as InList, Scenario, Nothing}

-- the first flag that is set decides; a list or a scenario is only printed with the status 0
abbrev pub format_asked : LeastOptions → ℕ → BudgetFormat
format_asked asked status =
    if asked.json then Records
    else (if not asked.list && not asked.donations then Text
    else (if not (status == 0) then Nothing
    else (if asked.list then InList
    else Scenario)))

-- a text is that of a report in a form, with the text of its start list and its scenario; nothing is claimed of text for people
abbrev pub IsReportIn : BudgetFormat → BudgetReport → List ℕ → List ℕ → List ℕ → Type 0
IsReportIn Text report machine scenario text = ⊤
IsReportIn Records report machine scenario text =
    (records : List Record) × IsReportRecords report records × (text ≡ json_text records)
IsReportIn InList report machine scenario text = IsWritten report machine text
IsReportIn Scenario report machine scenario text = text ≡ scenario_of report scenario
IsReportIn Nothing report machine scenario text = text ≡ []
