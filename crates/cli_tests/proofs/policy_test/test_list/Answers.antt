-- The list boots, or has a fault.
use Rattle.cli_base.specs.Texts.{bytes_of}
use Rattle.cli_tests.specs.PolicyTest.{IsKeptBy}
use Rattle.cli_tests.proofs.ResultLemmas.{booted_result, unbooted_result}
use Rattle.cli_tests.proofs.policy_test.test_list.Goals as goal

pub returns-in-Ok : goal.returns-in-Ok
returns-in-Ok g c =
    booted_result (IsKeptBy (g.H.Host.text_at c.args.host.now) c.args.strict c.args.policy.now) (bytes_of c.args.machine.now.text)
    c.text.result.now c.in-Ok.review.list c.checked.result c.text.ensures c.in-Ok.ensures.list c.in-Ok.ensures.boots c.checked.ensures

pub returns-in-Err : goal.returns-in-Err
returns-in-Err g c =
    unbooted_result (IsKeptBy (g.H.Host.text_at c.args.host.now) c.args.strict c.args.policy.now) (bytes_of c.args.machine.now.text)
    c.text.result.now c.in-Err.fault.fault c.unbooted.result c.text.ensures c.in-Err.ensures.fault c.unbooted.ensures.memory
    c.unbooted.ensures.failed
