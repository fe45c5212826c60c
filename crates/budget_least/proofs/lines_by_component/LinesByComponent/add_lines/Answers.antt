-- Line by line.
use Rattle.std.proofs.Common.{subst}
use Rattle.budget_search.specs.NoBudgets.{LacksBudgets}
use Rattle.budget_search.proofs.FaultLemmas.{passed_on}
use Rattle.budget_least.proofs.lines_by_component.LinesByComponent.add_lines.Goals as goal

pub returns-in_err-add_line-clause-fault : goal.returns-in_err-add_line-clause-fault
returns-in_err-add_line-clause-fault c =
    passed_on _ _ c.from_residual.result c.from_residual.ensures.1
    (λ other. subst (λ list. LacksBudgets list c.in_err-add_line.field-0.0) c.loop-line.invariant.list (c.in_err-add_line.ensures.fault other))
