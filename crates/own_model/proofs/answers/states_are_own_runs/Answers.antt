-- At the start the running states are own runs, and each line keeps them so.
use Rattle.own_model.proofs.RunningLemmas.{states_running-at}
use Rattle.own_model.proofs.answers.states_are_own_runs.Goals as goal

pub returns : goal.returns
returns c = states_running-at
