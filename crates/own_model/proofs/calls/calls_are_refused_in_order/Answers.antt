-- Each call's outcome is a refusal or what the call does.
use Rattle.own_model.proofs.StepTableLemmas.{refused_in_order, refused_leaves}
use Rattle.own_model.proofs.StepShortageLemmas.{refused_with_reason}
use Rattle.own_model.proofs.calls.calls_are_refused_in_order.Goals as goal

pub returns-clause-order : goal.returns-clause-order
returns-clause-order c = refused_in_order

pub returns-clause-leaves : goal.returns-clause-leaves
returns-clause-leaves c = refused_leaves

pub returns-clause-reasons : goal.returns-clause-reasons
returns-clause-reasons c = refused_with_reason
