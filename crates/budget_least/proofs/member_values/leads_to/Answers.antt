-- Steps of another number lead nowhere.
use Rattle.budget_least.proofs.ValueLemmas.{leads_apart}
use Rattle.budget_least.proofs.member_values.leads_to.Goals as goal

pub returns-then-steps-containers : goal.returns-then-steps-containers
returns-then-steps-containers c = leads_apart c.args.steps.now c.args.containers.now c.if-steps-containers.true
