-- Each budget in turn is covered.
use Rattle.own_model.proofs.StartLemmas.{machine_a_balanced_for}
use Rattle.own_model.proofs.start.machine_a_boots.Goals as goal

pub returns-clause-balanced : goal.returns-clause-balanced
returns-clause-balanced c = machine_a_balanced_for
