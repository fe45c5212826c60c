-- The rounds unfold, or have a fault.
use Rattle.line_rounds.specs.Views.{whole_view}
use Rattle.cli_tests.proofs.ScenarioLemmas.{folded_result, unfolded_result}
use Rattle.cli_tests.proofs.scenario_test.test_text.Goals as goal

pub returns-in-Ok : goal.returns-in-Ok
returns-in-Ok g c =
    unfolded_result c.args.case.settings c.args.case.list.now c.args.text.now c.in_ok-known.field-0 (whole_view c.in-Ok.lines)
    c.test_unfolded.result c.in_ok-known.ensures c.in-Ok.ensures c.test_unfolded.ensures

pub returns-in_ok-report-in-Err-Fault : goal.returns-in_ok-report-in-Err-Fault
returns-in_ok-report-in-Err-Fault g c =
    folded_result c.args.case.settings c.args.case.list.now c.args.text.now c.in_ok-known.field-0 c.in-Err-Fault.fault
    c.failed.result c.in_ok-known.ensures (rw c.in-Err-Fault.field-0-is at c.in-Err-Fault.ensures) c.failed.ensures
