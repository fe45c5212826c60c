-- The test fails, if the host isn't out of memory.
use Rattle.std.proofs.Common.{◌≡◌, ◌∙◌, false, sym}
use Rattle.cli_base.specs.ListFailures.{lacks_memory}
use Rattle.cli_tests.proofs.ScenarioLemmas.{failed_also}
use Rattle.cli_tests.proofs.scenario_test.without_machine.Goals as goal

pub returns : goal.returns
returns c =
    failed_also (lacks_memory c.args.failure.now ≡ false) c.failed.result (sym c.lacks_memory.ensures ∙ c.if-lacks_memory.false) c.failed.ensures
