-- The result is that of the run's end.
use Rattle.cli_tests.proofs.scenario_run.test_lines.Goals as goal

pub returns : goal.returns
returns g c = (c.in_ok-run.run'.ended, c.in_ok-run.ensures.ends, c.in_ok-run.ensures.memory, c.into_result.ensures)
