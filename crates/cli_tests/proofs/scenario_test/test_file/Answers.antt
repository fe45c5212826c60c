-- By the text of the file if it is read whole.
use Rattle.cli_tests.proofs.ScenarioLemmas.{read_result, unread_result}
use Rattle.cli_tests.proofs.scenario_test.test_file.Goals as goal

pub returns-in-Some : goal.returns-in-Some
returns-in-Some g c =
    read_result c.args.case.settings c.args.case.list.now (g.H.Host.text_at c.args.host.now) c.args.case.scenario.now
    c.in-Some.text.items c.deref.result.now c.test_text.result c.deref.ensures.value (rw c.in-Some.is at c.in_ok-text.ensures.text)
    c.test_text.ensures

pub returns-in-None : goal.returns-in-None
returns-in-None g c =
    unread_result c.args.case.settings c.args.case.list.now (g.H.Host.text_at c.args.host.now) c.args.case.scenario.now
    c.test_unread.result (rw c.in-None.is at c.in_ok-text.ensures.unread) c.test_unread.ensures
