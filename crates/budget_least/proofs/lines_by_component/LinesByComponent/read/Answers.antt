-- The run is on the list.
use Rattle.std.proofs.Common.{subst}
use Rattle.budget_search.specs.NoBudgets.{LacksBudgets}
use Rattle.budget_search.proofs.FaultLemmas.{passed_on}
use Rattle.budget_least.specs.BoundRuns.{BoundRun}
use Rattle.budget_least.proofs.lines_by_component.LinesByComponent.read.Goals as goal

pub returns-in_err-add_all-clause-fault : goal.returns-in_err-add_all-clause-fault
returns-in_err-add_all-clause-fault c =
    passed_on _ _ c.from_residual-in_err-add_all.result c.from_residual-in_err-add_all.ensures.1
    (λ other. subst (λ (r : BoundRun). LacksBudgets r.list c.in_err-add_all.field-0.0) c.in_ok-run.ensures (c.in_err-add_all.ensures.fault other))
