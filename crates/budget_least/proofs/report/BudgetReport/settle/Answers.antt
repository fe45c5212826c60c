-- The report settles, or its lines still change.
use Rattle.std.proofs.Common.{arith, ◌<◌, true, sym, subst}
use Rattle.budget_least.proofs.DraftLemmas.{last_draft}
use Rattle.budget_least.specs.ReportOf.{IsReportIf}
use Rattle.budget_search.proofs.FaultLemmas.{passed_on}
use Rattle.budget_least.proofs.report.BudgetReport.settle.Goals as goal

pub returns-then-branch-clause-report : goal.returns-then-branch-clause-report
returns-then-branch-clause-report c =
    let report = c.loop-number.self in
    let few : c.loop-number.number < 8 = omega (arith, c.loop-number-test.true) in
    subst (λ r. IsReportIf true c.args.question c.args.start.now r) (sym (c.in_ok-settles.ensures.same c.if-branch.true))
    (last_draft c.args.question c.args.start.now true c.loop-number.number report few c.loop-number.invariant.draft (c.in_ok-settles.ensures.settled c.if-branch.true))

pub loop-number-preserved : goal.loop-number-preserved
loop-number-preserved c = record { draft = c.in_ok-settles.ensures.next c.if-branch.false c.loop-number.number c.loop-number.invariant.draft }

pub returns-clause-report : goal.returns-clause-report
returns-clause-report c =
    let few : c.loop-number.number < 8 = omega (arith, c.loop-number.auto.number-end) in
    c.in_ok-leave_unsettled.ensures.report c.loop-number.number few c.loop-number.invariant.draft

pub returns-in_err-settles-clause-fault : goal.returns-in_err-settles-clause-fault
returns-in_err-settles-clause-fault c =
    passed_on _ _ c.from_residual.result c.from_residual.ensures.1 c.in_err-settles.ensures.fault

pub returns-in_err-leave_unsettled-clause-fault : goal.returns-in_err-leave_unsettled-clause-fault
returns-in_err-leave_unsettled-clause-fault c =
    passed_on _ _ c.from_residual-in_err-leave_unsettled.result c.from_residual-in_err-leave_unsettled.ensures.1 c.in_err-leave_unsettled.ensures.fault
