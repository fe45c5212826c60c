-- The sums of all limits are what a balanced machine has.
use Rattle.own_model.proofs.StepBalanceLemmas.{totals}
use Rattle.own_model.proofs.accounts.totals_are_the_machine.Goals as goal

pub returns : goal.returns
returns c = totals
