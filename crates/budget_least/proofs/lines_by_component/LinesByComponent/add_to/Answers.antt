-- An error is passed on.
use Rattle.budget_search.proofs.FaultLemmas.{passed_on}
use Rattle.budget_least.proofs.lines_by_component.LinesByComponent.add_to.Goals as goal

pub returns-in_err-answer-clause-fault : goal.returns-in_err-answer-clause-fault
returns-in_err-answer-clause-fault c =
    passed_on _ _ c.from_residual.result c.from_residual.ensures.1 c.in_err-answer.ensures.fault
