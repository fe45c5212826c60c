-- By the first test that comes out otherwise.
use Rattle.budget_meter.proofs.ReachedLemmas.{runs_exact}
use Rattle.budget_meter.proofs.theorems.session_runs_are_exact.Goals as goal

pub returns : goal.returns
returns c = runs_exact
