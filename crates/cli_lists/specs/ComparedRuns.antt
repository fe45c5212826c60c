-- The scenarios that are compared: their lines, the replies to them, and what components need for them.
use Rattle.std.specs.Prelude.{◌≡◌, ◌⊎◌, ℕ, Bool, true, false, List, [], ◌∷◌, map, not, is_some, Option, Some, None, Ok}
use Rattle.std.specs.Borrow.{Bor}
use Rattle.std.specs.List.{flat_map, slice_get}
use Rattle.std.specs.Option.{option_copied, option_map, unwrap_or}
use Rattle.own_model.specs.Amounts.{Amounts}
use Rattle.own_model.specs.Listed.{Listed, ListedEntry}
use Rattle.own_model.specs.Text.{lines_of}
use Rattle.budget_least.specs.Report.{accounts_of}
use Rattle.budget_least.specs.ReportOf.{IsReportOf}
use Rattle.budget_least.specs.declared.report.BudgetQuery.{BudgetQuery}
use Rattle.budget_least.specs.declared.report.BudgetReport.{BudgetReport}
use Rattle.budget_search.specs.BudgetIntervals.{lowest_of}
use Rattle.budget_search.specs.declared.account_budgets.AccountBudgets.{AccountBudgets}
use Rattle.budget_search.specs.declared.budget_intervals.BudgetChoice.TheVariants.{Minimum}
use Rattle.line_rounds.specs.Unfolding.{UnfoldedText}
use Rattle.line_steps.specs.RunPosition.{RunPosition, first_position}
use Rattle.list_diff.specs.LineResults.{LineCall, line_calls}
use Rattle.list_diff.specs.Needs.{shortfalls}
use Rattle.list_diff.specs.declared.need_changes.ComponentNeed.{ComponentNeed}
use Rattle.list_diff.specs.declared.need_changes.NeedChange.{NeedChange}
use Rattle.list_diff.specs.declared.need_changes.QuotaAmounts.{QuotaAmounts}
use Rattle.list_reach.specs.Paths.{pieces}
use Rattle.run_exchanges.specs.Exchange.{Exchange}
use Rattle.run_lines.specs.Machine.{world_of}
use Rattle.run_scenario.specs.RunCalls.{calls_answered}
use Rattle.run_scenario.specs.Writes.{steps_on}
use Rattle.view_runs.specs.Answers.{exchanges}
use Rattle.cli_base.specs.Files.{IsTextAt, IsUnknown}
use Rattle.cli_base.specs.Given.{names_of}
use Rattle.cli_base.specs.Unfolding.{HasRoundsFault, rounds_of}
use Rattle.cli_base.specs.declared.settings.Settings.{Settings}

-- ---- files

-- lines are those of the scenario at a path, with its rounds unfolded
abbrev pub AreLinesAt : (List ℕ → Option (List ℕ)) → Settings → List ℕ → UnfoldedText → Type 0
AreLinesAt texts settings path lines = (text : List ℕ) × IsTextAt texts path text × (rounds_of settings text ≡ Ok lines)

-- the rounds of the scenario at a path have a fault
abbrev pub HasFaultAt : (List ℕ → Option (List ℕ)) → Settings → List ℕ → Type 0
HasFaultAt texts settings path = (text : List ℕ) × IsTextAt texts path text × HasRoundsFault settings text

-- the scenario that is run on the list after: the one that is named for it, or else the same
abbrev pub path_after : Option (Bor (List ℕ)) → List ℕ → List ℕ
path_after other scenario = unwrap_or (option_copied other) scenario

-- one of both scenarios isn't known
abbrev pub LacksScenario : (List ℕ → Option (List ℕ)) → List ℕ → List ℕ → Type 0
LacksScenario texts was now = IsUnknown texts was ⊎ IsUnknown texts now

-- the rounds of one of both have a fault
abbrev pub HasFaultIn : (List ℕ → Option (List ℕ)) → Settings → List ℕ → List ℕ → Type 0
HasFaultIn texts settings was now = HasFaultAt texts settings was ⊎ HasFaultAt texts settings now

-- ---- replies

-- the position before the first line
abbrev pub start_by : Settings → UnfoldedText → RunPosition
start_by settings lines = first_position (names_of settings) lines.marks

-- the calls of a scenario with their replies on the machine of a list
abbrev pub answers_on : Settings → Listed → UnfoldedText → List Exchange
answers_on settings list lines =
    exchanges (world_of list) (calls_answered None (steps_on None (start_by settings lines) list (lines_of lines.text)))

-- what came of the lines, by the calls and their replies
abbrev pub results_by : Settings → UnfoldedText → List Exchange → List LineCall
results_by settings lines answers =
    line_calls (record { position = start_by settings lines; ahead = answers }) (pieces 10 lines.text)

-- ---- needs

-- the need of a component
pub record NeedAt : Type 0 where
  pub name : List ℕ
  pub has : QuotaAmounts
  pub needs : Option QuotaAmounts
  pub is_covered : Bool

abbrev pub need_at : ComponentNeed → NeedAt
need_at need = record { name = need.name.now; has = need.has; needs = need.needs; is_covered = need.is_covered }

abbrev pub quota_of : Amounts → QuotaAmounts
quota_of amounts = record { ram = amounts.ram; caps = amounts.caps }

-- by its own account: the given budget, and the lowest one that suffices
abbrev pub need_of : AccountBudgets → ListedEntry → NeedAt
need_of account entry = record {
  name = entry.path;
  has = record { ram = account.given.budget.ram; caps = account.given.budget.caps };
  needs = option_map quota_of (lowest_of account.found.rows.items);
  is_covered = not (is_some account.given.refused);
}

-- a session's account is no component's
abbrev pub need_if : AccountBudgets → Bool → Option ListedEntry → List NeedAt
need_if account true entry = []
need_if account false None = []
need_if account false (Some entry) = need_of account entry ∷ []

abbrev pub needs_by : Listed → AccountBudgets → List NeedAt
needs_by list account = need_if account (is_some account.session) (slice_get list.entries account.component)

-- a question is about the minimum budgets for lines on a list, with the donations that the lines state
abbrev pub AsksNeeds : Listed → UnfoldedText → BudgetQuery → Type 0
AsksNeeds list lines question =
    (question.list.now ≡ list) × (question.scenario.now ≡ lines.text) × (question.choice ≡ Minimum) × (question.as_donated ≡ true)

-- needs are those of the accounts in the report on such a question, with the values of names
abbrev pub AreNeedsOn : Settings → Listed → UnfoldedText → List ComponentNeed → Type 0
AreNeedsOn settings list lines needs =
    (question : BudgetQuery) × AsksNeeds list lines question
    × ((report : BudgetReport) × IsReportOf question (start_by settings lines) report
    × (map need_at needs ≡ flat_map (needs_by list) (accounts_of report)))

-- needs that aren't covered any more, by the needs for the lines on both lists
abbrev pub AreShortfalls : Settings → Listed → UnfoldedText → Listed → UnfoldedText → List NeedChange → Type 0
AreShortfalls settings before was after now lacks =
    (had : List ComponentNeed) × (has : List ComponentNeed) × AreNeedsOn settings before was had × AreNeedsOn settings after now has
    × (lacks ≡ shortfalls had has)
