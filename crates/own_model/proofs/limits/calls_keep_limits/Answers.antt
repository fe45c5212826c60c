-- Nothing that a call can do overdraws an account, and limits are only moved.
use Rattle.own_model.proofs.StepLimitLemmas.{limits_left, limits_stay, step_within, step_all_within, run_within}
use Rattle.own_model.proofs.limits.calls_keep_limits.Goals as goal

pub returns-clause-same : goal.returns-clause-same
returns-clause-same c = limits_left

pub returns-clause-own : goal.returns-clause-own
returns-clause-own c = limits_stay

pub returns-clause-within : goal.returns-clause-within
returns-clause-within c = step_within

pub returns-clause-all : goal.returns-clause-all
returns-clause-all c = step_all_within

pub returns-clause-run : goal.returns-clause-run
returns-clause-run c = run_within
