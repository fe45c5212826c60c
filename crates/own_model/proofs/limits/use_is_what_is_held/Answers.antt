-- Nothing is held at the start, and a call changes what is used and what is held alike.
use Rattle.own_model.proofs.StepUseLemmas.{start_uses, run_uses}
use Rattle.own_model.proofs.limits.use_is_what_is_held.Goals as goal

pub returns-clause-start : goal.returns-clause-start
returns-clause-start c = start_uses

pub returns-clause-run : goal.returns-clause-run
returns-clause-run c = run_uses
