-- One line more is one step more, and no step changes how many states there are.
use Rattle.own_model.proofs.RunningLemmas.{states_running-push, length-states_running}
use Rattle.own_model.proofs.answers.states_over_a_line.Goals as goal

pub returns-clause-last : goal.returns-clause-last
returns-clause-last c = states_running-push

pub returns-clause-count : goal.returns-clause-count
returns-clause-count c = length-states_running
