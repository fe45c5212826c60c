-- The lines that are run have a report.
use Rattle.std.proofs.Common.{◌≡◌, ◌≢◌, ◌∙◌, ℕ, zero, suc, Bool, true, false, true≢false, List, ap, refl, sym, subst, inl, inr}
use Rattle.std.proofs.lemmas.Result.{IfOk-at_ok}
use Rattle.std.specs.Prelude.{if◌then◌else◌}
use Rattle.line_names.specs.RoundMarks.{RoundMark}
use Rattle.line_rounds.specs.Unfolding.{UnfoldedText}
use Rattle.line_rounds.specs.Views.{whole_view}
use Rattle.line_steps.specs.RunPosition.{RunPosition, first_position}
use Rattle.list_parser.specs.declared.fault.BootFault.{BootFault}
use Rattle.list_parser.specs.declared.fault.BootFault.TheVariants.{NoMemory}
use Rattle.budget_search.specs.NoBudgets.{IsSearchFault}
use Rattle.budget_least.specs.LineErrors.{HasErrors, IsJudgeFault}
use Rattle.budget_least.specs.ReportOf.{has_names, IsDraftAt, IsReportOf}
use Rattle.budget_least.specs.declared.judged_run.JudgeFault.TheVariants.{Boot}
use Rattle.budget_least.specs.declared.report.BudgetQuery.{BudgetQuery}
use Rattle.budget_least.specs.declared.report.BudgetReport.{BudgetReport}
use Rattle.cli_base.proofs.StatusLemmas.{ends_by}
use Rattle.cli_base.proofs.UnfoldingLemmas.{ends_lines}
use Rattle.cli_base.specs.Given.{names_of}
use Rattle.cli_base.specs.ListFailures.{boot_lacks_memory}
use Rattle.cli_base.specs.Statuses.{HasNoResult, boot_status}
use Rattle.cli_base.specs.declared.machine.Machine.{Machine}
use Rattle.cli_base.specs.declared.settings.Settings.{Settings}
use Rattle.cli_options.specs.declared.command_options.LeastOptions.{LeastOptions}
use Rattle.cli_budgets.specs.BudgetStatus.{Asks, EndsMeasured, LacksReport, least_status}
use Rattle.cli_budgets.proofs.least_command.least_on.Goals as goal

-- a fault is a refusal with its reason, unless the host is out of memory
boot_ends : (R : Type 0) (fault : BootFault) (status : ℕ) → (fault ≢ NoMemory → R) → status ≡ boot_status fault → HasNoResult R status
boot_ends R fault status refused is = by (boot_lacks_memory fault) refl
  where
    by : (lacks : Bool) → boot_lacks_memory fault ≡ lacks → HasNoResult R status
    by true lacks = inl (inl (is ∙ ap (λ (b : Bool). if b then 1 else 2) lacks))
    by false lacks =
        inr (
          is ∙ ap (λ (b : Bool). if b then 1 else 2) lacks,
          refused (λ none. true≢false (sym (ap boot_lacks_memory none) ∙ lacks)),
        )

-- the list of a draft is the question's
draft_list : (number : ℕ) (question : BudgetQuery) (start : RunPosition) (unread : List ℕ) (report : BudgetReport) → IsDraftAt question start number unread report
    → report.list.now ≡ question.list.now
draft_list zero question start unread report draft = draft.list
draft_list (suc number) question start unread report next = next.draft.list

-- the report on the question that the command line asks
measured : (asked : LeastOptions) (settings : Settings) (machine : Machine) (text scenario : List ℕ) (lines : UnfoldedText) (question : BudgetQuery)
    (start again : RunPosition) (marks : List RoundMark) (report : BudgetReport) (errors status : ℕ) → Asks asked machine lines question
    → start ≡ first_position (names_of settings) marks → marks ≡ lines.marks → again ≡ start → IsReportOf question start report → scenario ≡ lines.text
    → HasErrors report scenario again errors → status ≡ least_status asked errors report → EndsMeasured asked settings machine text lines status
measured asked settings machine text scenario lines question start again marks report errors status asks first are same reported read has is =
    let begins : start ≡ first_position (names_of settings) lines.marks = first ∙ ap (first_position (names_of settings)) are in (
      question,
      asks,
      (
        report,
        subst (λ s. IsReportOf question s report) begins reported,
        (errors, subst (λ s. HasErrors report lines.text s errors) (same ∙ begins) (subst (λ l. HasErrors report l again errors) read has), is),
      ),
    )

pub returns-in-Ok-write_errors : goal.returns-in-Ok-write_errors
returns-in-Ok-write_errors c =
    let asked = c.args.asked.now in
    let Ends = EndsMeasured asked c.args.settings c.args.machine.now c.args.text.now in
    let Refused = LacksReport c.args.machine.now in
    let lines = whole_view c.in-Ok.lines in
    let report = c.in-Ok-of.report in
    let errors = c.in-Ok-write_errors.errors in
    let question : BudgetQuery =
    record { list = c.list.result; scenario = c.bytes.result; choice = c.choice_asked.result; as_donated = asked.as_donated } in
    let asks : Asks asked c.args.machine.now lines question = (c.list.ensures, c.bytes.ensures, c.choice_asked.ensures, refl) in
    let start = c.in-Ok-start_or_status.start in
    let same = IfOk-at_ok (λ (copy : RunPosition). copy ≡ start) c.in-Ok-made_or_status.ensures.ok c.copy.ensures in
    ends_lines Refused c.args.settings c.args.text.now Ends lines c.print_report.result c.in-Ok.ensures.lines
    (ends_by ⊥ Refused (λ ended. ended ≡ c.report_status-status.result) (Ends lines) (λ never. absurd never)
    (λ ended is. measured asked c.args.settings c.args.machine.now c.args.text.now c.bytes-2.result.now lines question start c.in-Ok-made_or_status.again c.marks.result.now
    report errors ended asks c.in-Ok-start_or_status.ensures.start c.marks.ensures same c.in-Ok-of.ensures.report c.bytes-2.ensures
    c.in-Ok-write_errors.ensures.errors (is ∙ c.report_status-status.ensures)) c.print_report.result c.print_report.ensures)

-- the machine of a component doesn't boot with the budgets that are written
pub returns-in-Err-Boot : goal.returns-in-Err-Boot
returns-in-Err-Boot c =
    let fault = c.in-Err-Boot.fault in
    let report = c.in-Ok-of.report in
    let reported = c.in-Ok-of.ensures.report in
    let question : BudgetQuery =
    record { list = c.list.result; scenario = c.bytes.result; choice = c.choice_asked.result; as_donated = c.args.asked.now.as_donated } in
    let stopped : IsJudgeFault report.list.now (Boot fault) = subst (IsJudgeFault report.list.now) c.in-Err-Boot.field-0-is c.in-Err-Boot.ensures.fault in
    let search : IsSearchFault question.list.now fault =
    subst (λ l. IsSearchFault l fault) (draft_list reported.number question c.in-Ok-start_or_status.start reported.unread report reported.draft) stopped in
    inl (boot_ends (LacksReport c.args.machine.now) fault c.report_boot_fault-in-Err-Boot.result
    (λ other. (c.list.result.now, c.list.ensures, (fault, search other))) c.report_boot_fault-in-Err-Boot.ensures)

pub returns-in-Err-of : goal.returns-in-Err-of
returns-in-Err-of c =
    inl (boot_ends (LacksReport c.args.machine.now) c.in-Err-of.fault c.report_boot_fault.result
    (λ other. (c.list.result.now, c.list.ensures, (c.in-Err-of.fault, c.in-Err-of.ensures.fault other))) c.report_boot_fault.ensures)
