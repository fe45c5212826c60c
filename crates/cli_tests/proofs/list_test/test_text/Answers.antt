-- The list boots, or has a fault.
use Rattle.cli_base.specs.Texts.{bytes_of}
use Rattle.cli_tests.specs.PolicyTest.{HasNoFindings}
use Rattle.cli_tests.proofs.ResultLemmas.{booted_result, findings_result, unbooted_result}
use Rattle.cli_tests.proofs.list_test.test_text.Goals as goal

pub returns-in-Ok : goal.returns-in-Ok
returns-in-Ok c =
    booted_result (HasNoFindings (bytes_of c.args.machine.now.text)) (bytes_of c.args.machine.now.text) c.text.result.now c.in-Ok.review.list
    c.reviewed.result c.text.ensures c.in-Ok.ensures.list c.in-Ok.ensures.boots
    (findings_result (bytes_of c.args.machine.now.text) c.text.result.now c.in-Ok.review.list c.findings.result.now
    c.in-Ok.review.findings.items c.reviewed.result c.text.ensures c.in-Ok.ensures.told c.findings.ensures c.reviewed.ensures)

pub returns-in-Err : goal.returns-in-Err
returns-in-Err c =
    unbooted_result (HasNoFindings (bytes_of c.args.machine.now.text)) (bytes_of c.args.machine.now.text) c.text.result.now
    c.in-Err.fault.fault c.unbooted.result c.text.ensures c.in-Err.ensures.fault c.unbooted.ensures.memory c.unbooted.ensures.failed
