-- A call that is answered is told to the watch.
use Rattle.run_scenario.proofs.LineLemmas.{hears_none, hears_one}
use Rattle.run_scenario.proofs.line_step.report_call.Goals as goal

pub returns-in-Some-clause-hears : goal.returns-in-Some-clause-hears
returns-in-Some-clause-hears g c = λ only number old calls leaves is. hears_one _ c.tell.result leaves (rw c.in-Some.is at is) c.tell.ensures.told c.tell.ensures.seen

pub returns-in-None-clause-hears : goal.returns-in-None-clause-hears
returns-in-None-clause-hears g c = λ only number old calls leaves none. hears_none _ leaves (rw c.in-None.is at none)
