-- One line more is one step more.
use Rattle.own_model.proofs.RunningLemmas.{inits_running-push}
use Rattle.own_model.proofs.answers.inits_over_a_line.Goals as goal

pub returns-clause-last : goal.returns-clause-last
returns-clause-last c = inits_running-push
