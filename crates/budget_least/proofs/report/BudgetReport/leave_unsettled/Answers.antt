-- The lines that still change are left out.
use Rattle.std.proofs.Common.{◌++◌, map, ap, ◌∙◌}
use Rattle.budget_least.proofs.DraftLemmas.{left_out}
use Rattle.budget_least.specs.ComponentLines.{numbers_in}
use Rattle.budget_least.specs.declared.changed_line.ChangedLine.{ChangedLine}
use Rattle.budget_search.proofs.FaultLemmas.{passed_on}
use Rattle.budget_least.proofs.report.BudgetReport.leave_unsettled.Goals as goal

pub returns-clause-report : goal.returns-clause-report
returns-clause-report c = λ number few is.
    let changed = c.in_ok-changed.changed in
    left_out c.args.question c.args.start.now number c.args.self.now c.leave_changed.new.self c.in_ok-lines.lines (map (λ (line : ChangedLine). line.number) changed.items) few
    c.leave_changed.ensures.steps c.in_ok-lines.ensures.filled c.in_ok-changed.ensures
    (c.in_ok-leave_changed.ensures.unmeasured
    ∙ ap (λ lines. numbers_in c.args.self.now.scene ++ map (λ (line : ChangedLine). line.number) lines) c.as_slice.ensures.value) is

pub returns-in_err-lines-clause-fault : goal.returns-in_err-lines-clause-fault
returns-in_err-lines-clause-fault c =
    passed_on _ _ c.from_residual.result c.from_residual.ensures.1 c.in_err-lines.ensures.fault
