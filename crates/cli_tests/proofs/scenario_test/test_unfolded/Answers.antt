-- The unfolded lines are run.
use Rattle.line_rounds.specs.Views.{whole_view}
use Rattle.cli_tests.proofs.ScenarioLemmas.{called_result}
use Rattle.cli_tests.proofs.scenario_test.test_unfolded.Goals as goal

pub returns : goal.returns
returns g c =
    called_result c.args.case.settings c.args.case.list.now (whole_view c.args.lines.now) c.marks.result.now c.bytes.result.now c.in_ok-run.run'.passed
    c.with_call.result c.marks.ensures c.bytes.ensures c.in_ok-run.ensures (rw c.bytes-2.ensures at c.with_call.ensures)
