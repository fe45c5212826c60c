-- On a machine, or without one.
use Rattle.cli_tests.proofs.ScenarioLemmas.{machine_result}
use Rattle.cli_tests.proofs.scenario_test.test_on.Goals as goal

pub returns-in-Ok : goal.returns-in-Ok
returns-in-Ok g c =
    rw c.in-Ok.is (machine_result c.args.conditions.settings c.list.result.now (g.H.Host.text_at c.args.host.now)
    c.args.scenario.now c.in-Ok.machine c.test_file.result c.list.ensures c.test_file.ensures)

pub returns-in-Err : goal.returns-in-Err
returns-in-Err g c = rw c.in-Err.is c.without_machine.ensures
