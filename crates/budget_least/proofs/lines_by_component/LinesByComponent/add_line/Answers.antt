-- The line is taken at the position after it, on the list of the run.
use Rattle.std.proofs.Common.{ap, subst, ◌∙◌}
use Rattle.line_steps.specs.ResolvedViews.{resolved_view}
use Rattle.budget_search.specs.NoBudgets.{LacksBudgets}
use Rattle.budget_search.proofs.FaultLemmas.{passed_on}
use Rattle.budget_least.specs.BoundRuns.{BoundRun}
use Rattle.budget_least.specs.ComponentLines.{reading}
use Rattle.budget_least.proofs.ReadingLemmas.{taken_list}
use Rattle.budget_least.proofs.lines_by_component.LinesByComponent.add_line.Goals as goal

pub returns-in_err-take-clause-fault : goal.returns-in_err-take-clause-fault
returns-in_err-take-clause-fault c =
    passed_on _ _ c.from_residual.result c.from_residual.ensures.1
    (λ other. subst (λ (r : BoundRun). LacksBudgets r.list c.in_err-take.field-0.0) c.pass-number.ensures.passed (c.in_err-take.ensures.fault other))

pub returns-clause-list : goal.returns-clause-list
returns-clause-list c =
    ap (λ (r : BoundRun). r.list) c.in_ok-arrive.ensures
    ∙ taken_list c.pass-number.result (resolved_view c.resolve-resolved.result) (reading c.pass-number.new.self c.args.self.now) (reading c.take.new.run c.take.new.self)
    c.in_ok-take.ensures.taken
    ∙ ap (λ (r : BoundRun). r.list) c.pass-number.ensures.passed
