-- The status tells whether the host is out of memory.
use Rattle.cli_base.specs.ListFailures.{lacks_memory}
use Rattle.cli_tests.proofs.ScenarioLemmas.{lacks_by_status}
use Rattle.cli_tests.proofs.scenario_test.lacks_memory.Goals as goal

pub returns : goal.returns
returns c = lacks_by_status (lacks_memory c.args.failure.now) c.exit_status.result c.exit_status.ensures
