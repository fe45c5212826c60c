-- The report on a question: its lines, its accounts, and the lines that aren't measured.
use Rattle.std.specs.Prelude.{◌≡◌, ◌<◌, ℕ, zero, suc, ◌==◌, Bool, true, false, List, [], ◌++◌, length, is_some, if◌then◌else◌}
use Rattle.std.specs.List.{position, slice_split}
use Rattle.line_steps.specs.RunPosition.{RunPosition}
use Rattle.budget_least.specs.BoundRuns.{BoundRun}
use Rattle.budget_least.specs.ChangedLines.{changed_numbers}
use Rattle.budget_least.specs.ComponentAccounts.{AreAccounts}
use Rattle.budget_least.specs.ComponentLines.{first_reading, lines_in, numbers_in, AreRead, HasRead}
use Rattle.budget_least.specs.InitNeeds.{AreNeeded}
use Rattle.budget_least.specs.LineDonations.{sessions_in, HasDonations}
use Rattle.budget_least.specs.declared.binding_run.BindingBudgets.{BindingBudgets}
use Rattle.budget_least.specs.declared.binding_run.BindingBudgets.TheVariants.{Ample, AsDonated, Chosen}
use Rattle.budget_least.specs.declared.lines_by_component.LinesByComponent.{LinesByComponent}
use Rattle.budget_least.specs.declared.report.BudgetQuery.{BudgetQuery}
use Rattle.budget_least.specs.declared.report.BudgetReport.{BudgetReport}

-- ---- budgets of runs

-- the budgets of the first run: ample ones, or with the donations of the scenario
abbrev pub first_budgets : BudgetQuery → BindingBudgets
first_budgets question = if question.as_donated then AsDonated else Ample

-- these are the budgets that a report writes
abbrev pub AreWrittenBy : BudgetReport → BindingBudgets → Type 0
AreWrittenBy report Ample = ⊥
AreWrittenBy report AsDonated = ⊥
AreWrittenBy report (Chosen choice accounts steps) =
    (choice ≡ report.choice) × ((accounts.now ≡ report.accounts.items) × (steps.now ≡ report.scene.steps.items))

-- ---- drafts

-- the lines of a report are those of a run with these budgets, which can't parse the lines of these numbers
abbrev pub AreLinesOf : BudgetQuery → RunPosition → BindingBudgets → List ℕ → BudgetReport → Type 0
AreLinesOf question start budgets unread report =
    (run : BoundRun)
    × AreRead (slice_split (λ b. b == 10) question.scenario.now)
    (first_reading question.list.now question.scenario.now start budgets)
    (record { run = run; lines = lines_in report.scene; unmeasured = unread })

-- a report has the accounts of so many components, for its lines
abbrev pub HasAccounts : BudgetReport → ℕ → Type 0
HasAccounts report count = AreAccounts report.list.now report.scene.steps.items count report.accounts.items

-- another report has the accounts that a report has, with the same sessions
abbrev pub HaveKept : BudgetReport → BudgetReport → Type 0
HaveKept old new =
    (count : ℕ) → HasAccounts old count → HasAccounts new count × (sessions_in new.accounts.items ≡ sessions_in old.accounts.items)

-- a report has the lines of such a run, which donate what their sessions need, and the accounts of these lines. Accounts of inits
-- have what the inits' lists need
pub record IsDraft (question : BudgetQuery) (start : RunPosition) (budgets : BindingBudgets) (unread : List ℕ) (report : BudgetReport) : Type 0 where
  pub list : report.list.now ≡ question.list.now
  pub choice : report.choice ≡ question.choice
  pub lines : AreLinesOf question start budgets unread report
  pub donations : HasDonations question.as_donated report
  pub accounts : HasAccounts report (length report.list.now.entries)
  pub needed : AreNeeded report.choice report.list.now report.accounts.items

-- a report has the lines of a run with the budgets that a draft before it writes
pub record IsNextDraft (IsBefore : List ℕ → BudgetReport → Type 0) (question : BudgetQuery) (start : RunPosition) (unread : List ℕ) (report : BudgetReport) : Type 0 where
  pub before : BudgetReport
  pub earlier : List ℕ
  pub is_before : IsBefore earlier before
  pub budgets : BindingBudgets
  pub written : AreWrittenBy before budgets
  pub draft : IsDraft question start budgets unread report

-- a report is the draft of a number: the first draft has the lines of the first run, and each other one those of a run with the
-- budgets that the draft before it writes
abbrev pub IsDraftAt : BudgetQuery → RunPosition → ℕ → List ℕ → BudgetReport → Type 0
IsDraftAt question start zero unread report = IsDraft question start (first_budgets question) unread report
IsDraftAt question start (suc number) unread report =
    IsNextDraft (λ earlier before. IsDraftAt question start number earlier before) question start unread report

-- ---- the report

-- these are the lines as a run with the budgets that a report writes fills them
abbrev pub AreFilledBy : BudgetQuery → RunPosition → BudgetReport → LinesByComponent → Type 0
AreFilledBy question start report filled =
    (budgets : BindingBudgets)
    × (AreWrittenBy report budgets × HasRead question.list.now question.scenario.now start budgets filled)

-- if the scenario has names, these are the numbers of the report's lines that are other lines in that run
abbrev pub AreUnsettledIf : Bool → BudgetQuery → RunPosition → BudgetReport → List ℕ → Type 0
AreUnsettledIf false question start report unsettled = unsettled ≡ []
AreUnsettledIf true question start report unsettled =
    (filled : LinesByComponent)
    × (AreFilledBy question start report filled
    × (unsettled ≡ changed_numbers (lines_in report.scene) (lines_in filled)))

-- names are in a text if a dollar sign, 36, is
abbrev pub has_names : List ℕ → Bool
has_names text = is_some (position (λ b. b == 36) text)

-- a report is one of the first eight drafts. The lines that aren't measured are those that can't be parsed, and if there are names
-- those that are other lines with the budgets that the report writes
pub record IsReportIf (named : Bool) (question : BudgetQuery) (start : RunPosition) (report : BudgetReport) : Type 0 where
  pub number : ℕ
  pub few : number < 8
  pub unread : List ℕ
  pub draft : IsDraftAt question start number unread report
  pub unsettled : List ℕ
  pub settled : AreUnsettledIf named question start report unsettled
  pub unmeasured : numbers_in report.scene ≡ unread ++ unsettled

-- the report on a question
abbrev pub IsReportOf : BudgetQuery → RunPosition → BudgetReport → Type 0
IsReportOf question start report = IsReportIf (has_names question.scenario.now) question start report
