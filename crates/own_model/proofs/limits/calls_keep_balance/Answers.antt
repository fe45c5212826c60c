-- A call leaves all limits as they are and overdraws no account.
use Rattle.own_model.proofs.StepBalanceLemmas.{step_balanced, lines_balanced, limits_fit, step_balanced_for, lines_balanced_for}
use Rattle.own_model.proofs.limits.calls_keep_balance.Goals as goal

pub returns-clause-call : goal.returns-clause-call
returns-clause-call c = step_balanced

pub returns-clause-lines : goal.returns-clause-lines
returns-clause-lines c = lines_balanced

pub returns-clause-call_for : goal.returns-clause-call_for
returns-clause-call_for c = step_balanced_for

pub returns-clause-lines_for : goal.returns-clause-lines_for
returns-clause-lines_for c = lines_balanced_for

pub returns-clause-fit : goal.returns-clause-fit
returns-clause-fit c = limits_fit
