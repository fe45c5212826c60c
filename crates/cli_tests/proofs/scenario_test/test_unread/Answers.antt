-- The lines of an open file are run.
use Rattle.std.proofs.Common.{refl}
use Rattle.cli_tests.proofs.ResultLemmas.{unopened_unknown}
use Rattle.cli_tests.proofs.ScenarioLemmas.{closed_result, lines_result}
use Rattle.cli_tests.proofs.scenario_test.test_unread.Goals as goal

pub returns-in-Ok : goal.returns-in-Ok
returns-in-Ok g c =
    lines_result c.args.case.settings c.args.case.list.now (g.H.Host.text_at c.args.host.now) c.args.case.scenario.now
    _ c.test_lines.result c.in-Ok.ensures.bytes c.test_lines.ensures

pub returns-in_ok-report-in-Err : goal.returns-in_ok-report-in-Err
returns-in_ok-report-in-Err g c =
    closed_result c.args.case.settings c.args.case.list.now (g.H.Host.text_at c.args.host.now) c.args.case.scenario.now
    c.failed.result (unopened_unknown _ _ refl c.in-Err.ensures.opened) c.failed.ensures
