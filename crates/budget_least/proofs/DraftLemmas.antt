-- Drafts of a report, one after another, and the last one.
use Rattle.std.proofs.Common.{arith, ◌≡◌, ℕ, zero, suc, ◌+◌, ◌<◌, ◌==◌, Bool, true, List, [], ◌++◌, length, map, append-nil, refl, sym, ap, subst, ◌∙◌, Bor}
use Rattle.std.specs.Prelude.{Vec}
use Rattle.std.specs.List.{slice_split}
use Rattle.own_model.specs.Listed.{Listed}
use Rattle.line_steps.specs.RunPosition.{RunPosition}
use Rattle.budget_least.proofs.SessionLemmas.{donations_kept}
use Rattle.budget_search.specs.declared.account_budgets.AccountBudgets.{AccountBudgets}
use Rattle.budget_search.specs.declared.component_line.ComponentLine.{ComponentLine}
use Rattle.budget_least.specs.BoundRuns.{BoundRun}
use Rattle.budget_least.specs.ChangedLines.{changed_numbers}
use Rattle.budget_least.specs.ComponentAccounts.{AreAccounts}
use Rattle.budget_least.specs.ComponentLines.{first_reading, lines_in, lines_of, numbers_in, AreRead, HasRead, ReadLine}
use Rattle.budget_least.specs.InitNeeds.{AreNeeded}
use Rattle.budget_least.specs.LineDonations.{HasDonations}
use Rattle.budget_least.specs.ReportOf.{first_budgets, has_names, AreFilledBy, AreUnsettledIf, AreWrittenBy, HasAccounts, HaveKept, IsDraft, IsDraftAt, IsReportIf}
use Rattle.budget_least.specs.declared.binding_run.BindingBudgets.{BindingBudgets}
use Rattle.budget_least.specs.declared.binding_run.BindingBudgets.TheVariants.{Ample, AsDonated, Chosen}
use Rattle.budget_least.specs.declared.lines_by_component.LinesByComponent.{LinesByComponent}
use Rattle.budget_least.specs.declared.report.BudgetQuery.{BudgetQuery}
use Rattle.budget_least.specs.declared.report.BudgetReport.{BudgetReport}
use Rattle.budget_least.specs.declared.unmeasured_line.UnmeasuredLine.{UnmeasuredLine}

-- ---- lines that are the same

abbrev seen : {Z : Type 0} → List (Vec ComponentLine Z) → List (List ReadLine)
seen steps = map (λ lines. lines_of lines.items) steps

accounts_kept : {Z : Type 0} (list : Listed) (count : ℕ) (accounts : List AccountBudgets) (old new : List (Vec ComponentLine Z)) → new ≡ old → AreAccounts list old count accounts →
    AreAccounts list new count accounts
accounts_kept {Z = Z} list count accounts old new same are = subst (λ (steps : List (Vec ComponentLine Z)). AreAccounts list steps count accounts) (sym same) are

module _ (question : BudgetQuery) (start : RunPosition) where
  reading_kept : (budgets : BindingBudgets) (run : BoundRun) (old new : List (List ReadLine)) (was now : List ℕ) → new ≡ old → now ≡ was →
      AreRead (slice_split (λ b. b == 10) question.scenario.now) (first_reading question.list.now question.scenario.now start budgets)
      (record { run = run; lines = old; unmeasured = was }) →
      AreRead (slice_split (λ b. b == 10) question.scenario.now) (first_reading question.list.now question.scenario.now start budgets)
      (record { run = run; lines = new; unmeasured = now })
  reading_kept budgets run old new was now same numbers read =
      subst (λ (unread : List ℕ). AreRead (slice_split (λ b. b == 10) question.scenario.now)
      (first_reading question.list.now question.scenario.now start budgets) (record { run = run; lines = new; unmeasured = unread })) (sym numbers)
      (subst (λ (lines : List (List ReadLine)). AreRead (slice_split (λ b. b == 10) question.scenario.now)
      (first_reading question.list.now question.scenario.now start budgets) (record { run = run; lines = lines; unmeasured = was })) (sym same) read)

  -- ---- lines and accounts of one draft

  pub drafted : (budgets : BindingBudgets) (lines : LinesByComponent) (measured report : BudgetReport) → measured.list.now ≡ question.list.now →
      measured.choice ≡ question.choice → measured.scene.unmeasured ≡ lines.unmeasured → lines_in measured.scene ≡ lines_in lines →
      HasAccounts measured (length measured.list.now.entries) → HasDonations question.as_donated measured → report.list ≡ measured.list → report.choice ≡ measured.choice → report.scene ≡ measured.scene →
      HaveKept measured report → AreNeeded report.choice report.list.now report.accounts.items →
      HasRead question.list.now question.scenario.now start budgets lines → IsDraft question start budgets (numbers_in report.scene) report
  drafted budgets lines measured report list choice unmeasured same accounts donations lists choices scenes kept needed read = record {
    list = ap (λ (l : Bor Listed). l.now) lists ∙ list;
    choice = choices ∙ choice;
    lines = (
      read.0,
      reading_kept budgets read.0 (lines_in lines) (lines_in report.scene) (numbers_in lines) (numbers_in report.scene)
          (ap (λ (scene : LinesByComponent). lines_in scene) scenes ∙ same)
          (ap (λ (scene : LinesByComponent). numbers_in scene) scenes ∙ ap (λ found. map (λ (line : UnmeasuredLine). line.number) found.items) unmeasured) read.1,
    );
    donations =
        donations_kept question.as_donated measured report choices (ap (λ (scene : LinesByComponent). scene.steps.items) scenes)
        (kept (length measured.list.now.entries) accounts).1 donations;
    accounts = subst (λ (l : Bor Listed). HasAccounts report (length l.now.entries)) (sym lists) (kept (length measured.list.now.entries) accounts).0;
    needed = needed;
  }

  -- ---- lines that are added to those that aren't measured

  draft_kept : (budgets : BindingBudgets) (unread : List ℕ) (report : BudgetReport) (scene : LinesByComponent) → scene.steps ≡ report.scene.steps →
      IsDraft question start budgets unread report → IsDraft question start budgets unread (record report { scene = scene })
  draft_kept budgets unread report scene same is = record {
    list = is.list;
    choice = is.choice;
    lines = (is.lines.0, reading_kept budgets is.lines.0 (lines_in report.scene) (lines_in scene) unread unread (ap (λ steps. seen steps.items) same) refl is.lines.1);
    donations =
        donations_kept question.as_donated report (record report { scene = scene }) refl (ap (λ steps. steps.items) same) refl is.donations;
    accounts =
        accounts_kept report.list.now (length report.list.now.entries) report.accounts.items report.scene.steps.items scene.steps.items (ap (λ steps. steps.items) same)
        is.accounts;
    needed = is.needed;
  }

  draft_kept_at : (number : ℕ) (unread : List ℕ) (report : BudgetReport) (scene : LinesByComponent) → scene.steps ≡ report.scene.steps →
      IsDraftAt question start number unread report → IsDraftAt question start number unread (record report { scene = scene })
  draft_kept_at zero unread report scene same is = draft_kept (first_budgets question) unread report scene same is
  draft_kept_at (suc number) unread report scene same is = record {
    before = is.before;
    earlier = is.earlier;
    is_before = is.is_before;
    budgets = is.budgets;
    written = is.written;
    draft = draft_kept is.budgets unread report scene same is.draft;
  }

  written_kept : (budgets : BindingBudgets) (report : BudgetReport) (scene : LinesByComponent) → scene.steps ≡ report.scene.steps → AreWrittenBy report budgets →
      AreWrittenBy (record report { scene = scene }) budgets
  written_kept Ample report scene same are = absurd are
  written_kept AsDonated report scene same are = absurd are
  written_kept (Chosen choice accounts steps) report scene same are = (are.0, (are.1.0, are.1.1 ∙ ap (λ lines. lines.items) (sym same)))

  pub left_out : (number : ℕ) (report : BudgetReport) (scene filled : LinesByComponent) (numbers : List ℕ) → number < 8 → scene.steps ≡ report.scene.steps →
      AreFilledBy question start report filled → numbers ≡ changed_numbers (lines_in report.scene) (lines_in filled) →
      numbers_in scene ≡ numbers_in report.scene ++ numbers → IsDraftAt question start number (numbers_in report.scene) report →
      IsReportIf true question start (record report { scene = scene })
  left_out number report scene filled numbers few same are changed longer is = record {
    number = number;
    few = few;
    unread = numbers_in report.scene;
    draft = draft_kept_at number (numbers_in report.scene) report scene same is;
    unsettled = numbers;
    settled = (
      filled,
      (
        (are.0, (written_kept are.0 report scene same are.1.0, are.1.1)),
        changed ∙ ap (λ (lines : List (List ReadLine)). changed_numbers lines (lines_in filled)) (ap (λ steps. seen steps.items) (sym same)),
      ),
    );
    unmeasured = longer;
  }

  -- ---- the last draft

  -- no line is another one in the run with the budgets that are written
  pub none_left : (report : BudgetReport) (filled : LinesByComponent) (numbers : List ℕ) → AreFilledBy question start report filled →
      numbers ≡ changed_numbers (lines_in report.scene) (lines_in filled) → numbers ≡ [] → AreUnsettledIf true question start report []
  none_left report filled numbers are changed none = (filled, (are, sym none ∙ changed))

  pub last_draft : (named : Bool) (number : ℕ) (report : BudgetReport) → number < 8 → IsDraftAt question start number (numbers_in report.scene) report →
      AreUnsettledIf named question start report [] → IsReportIf named question start report
  last_draft named number report few is settled = record {
    number = number;
    few = few;
    unread = numbers_in report.scene;
    draft = is;
    unsettled = [];
    settled = settled;
    unmeasured = sym (append-nil (numbers_in report.scene));
  }

  -- ---- one draft more

  pub next_draft : (number : ℕ) (before report : BudgetReport) (filled : LinesByComponent) → AreFilledBy question start before filled →
      ((s : RunPosition) (budgets : BindingBudgets) → HasRead question.list.now question.scenario.now s budgets filled →
      IsDraft question s budgets (numbers_in report.scene) report) →
      IsDraftAt question start number (numbers_in before.scene) before → IsDraftAt question start (number + 1) (numbers_in report.scene) report
  next_draft number before report filled are drafted is =
      let next : number + 1 ≡ suc number = omega arith in
      subst (λ n. IsDraftAt question start n (numbers_in report.scene) report) (sym next) (next_at number before report filled are drafted is)
    where
      next_at : (n : ℕ) (old new : BudgetReport) (lines : LinesByComponent) → AreFilledBy question start old lines →
          ((s : RunPosition) (budgets : BindingBudgets) → HasRead question.list.now question.scenario.now s budgets lines →
          IsDraft question s budgets (numbers_in new.scene) new) →
          IsDraftAt question start n (numbers_in old.scene) old → IsDraftAt question start (suc n) (numbers_in new.scene) new
      next_at n old new lines filled_by makes was = record {
        before = old;
        earlier = numbers_in old.scene;
        is_before = was;
        budgets = filled_by.0;
        written = filled_by.1.0;
        draft = makes start filled_by.0 filled_by.1.1;
      }

-- a scenario has names, or not
pub named_as : (question : BudgetQuery) (start : RunPosition) (report : BudgetReport) (named found : Bool) → found ≡ has_names question.scenario.now → found ≡ named →
    IsReportIf named question start report → IsReportIf (has_names question.scenario.now) question start report
named_as question start report named found told is reported = subst (λ b. IsReportIf b question start report) (sym is ∙ told) reported

-- in a draft, accounts of inits have what the inits' lists need
pub needed_at : (question : BudgetQuery) (start : RunPosition) (number : ℕ) (unread : List ℕ) (report : BudgetReport)
    → IsDraftAt question start number unread report → AreNeeded report.choice report.list.now report.accounts.items
needed_at question start zero unread report draft = draft.needed
needed_at question start (suc number) unread report next = next.draft.needed
