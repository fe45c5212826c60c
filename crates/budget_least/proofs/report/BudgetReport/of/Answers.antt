-- Without names the first draft is the report.
use Rattle.std.proofs.Common.{arith, true, false, refl}
use Rattle.budget_least.specs.ComponentLines.{numbers_in}
use Rattle.budget_least.proofs.DraftLemmas.{last_draft, named_as, needed_at}
use Rattle.budget_search.proofs.FaultLemmas.{passed_on}
use Rattle.budget_least.proofs.report.BudgetReport.of.Goals as goal

pub returns-then-not-has_names-clause-report : goal.returns-then-not-has_names-clause-report
returns-then-not-has_names-clause-report c =
    let report = c.in_ok-report.report in
    named_as c.args.question c.args.start report false c.has_names.result c.has_names.ensures c.if-not-has_names.true
    (last_draft c.args.question c.args.start false 0 report (omega arith) c.in_ok-report.ensures.draft refl)

pub returns-then-not-has_names-clause-needed : goal.returns-then-not-has_names-clause-needed
returns-then-not-has_names-clause-needed c =
    let report = c.in_ok-report.report in
    needed_at c.args.question c.args.start 0 (numbers_in report.scene) report c.in_ok-report.ensures.draft

pub returns-clause-report : goal.returns-clause-report
returns-clause-report c =
    named_as c.args.question c.args.start c.settle.new.self true c.has_names.result c.has_names.ensures c.if-not-has_names.false c.in_ok-settle.ensures.report

pub returns-clause-needed : goal.returns-clause-needed
returns-clause-needed c =
    let ended = c.in_ok-settle.ensures.report in
    needed_at c.args.question c.args.start ended.number ended.unread c.settle.new.self ended.draft

pub returns-in_err-report-clause-fault : goal.returns-in_err-report-clause-fault
returns-in_err-report-clause-fault c =
    passed_on _ _ c.from_residual.result c.from_residual.ensures.1 c.in_err-report.ensures.fault

pub returns-in_err-settle-clause-fault : goal.returns-in_err-settle-clause-fault
returns-in_err-settle-clause-fault c =
    passed_on _ _ c.from_residual-in_err-settle.result c.from_residual-in_err-settle.ensures.1 c.in_err-settle.ensures.fault
