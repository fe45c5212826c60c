-- The lines of the first run.
use Rattle.std.proofs.Common.{subst}
use Rattle.budget_least.specs.ComponentLines.{numbers_in}
use Rattle.budget_least.specs.ReportOf.{IsDraft}
use Rattle.budget_least.specs.declared.binding_run.BindingBudgets.{BindingBudgets}
use Rattle.budget_search.proofs.FaultLemmas.{passed_on}
use Rattle.budget_least.proofs.report.BudgetReport.first.Goals as goal

pub returns-clause-draft : goal.returns-clause-draft
returns-clause-draft c =
    let report = c.in_ok-report.report in
    subst (λ (b : BindingBudgets). IsDraft c.args.question c.args.start.now b (numbers_in report.scene) report) c.ample.ensures
    (c.in_ok-report.ensures.draft c.args.start.now c.ample.result c.in_ok-lines.ensures.read)

pub returns-in_err-lines-clause-fault : goal.returns-in_err-lines-clause-fault
returns-in_err-lines-clause-fault c =
    passed_on _ _ c.from_residual.result c.from_residual.ensures.1 c.in_err-lines.ensures.fault

pub returns-in_err-report-clause-fault : goal.returns-in_err-report-clause-fault
returns-in_err-report-clause-fault c =
    passed_on _ _ c.from_residual-in_err-report.result c.from_residual-in_err-report.ensures.1 c.in_err-report.ensures.fault
