-- Bare lines are played as they stand.
use Rattle.run_scenario.proofs.LineStepLemmas.{bare_steps}
use Rattle.run_scenario.proofs.theorems.bare_lines_stay.Goals as goal

pub returns : goal.returns
returns g = bare_steps
