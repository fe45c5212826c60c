-- With a scenario, and without one.
use Rattle.cli_lists.proofs.diff.compare_judged.Goals as goal

pub returns-in-Some-clause-ended : goal.returns-in-Some-clause-ended
returns-in-Some-clause-ended g c = rw c.in-Some.is c.compare_scenario.ensures.ended

pub returns-in-Some-clause-stopped : goal.returns-in-Some-clause-stopped
returns-in-Some-clause-stopped g c = rw c.in-Some.is c.compare_scenario.ensures.stopped

pub returns-in-None-clause-ended : goal.returns-in-None-clause-ended
returns-in-None-clause-ended g c = rw c.in-None.is c.print_differences.ensures
