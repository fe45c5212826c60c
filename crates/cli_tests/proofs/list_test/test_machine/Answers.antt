-- A list that is read, and one that isn't.
use Rattle.std.proofs.Common.{Err, Ok, Some, refl, subst}
use Rattle.cli_base.specs.Texts.{bytes_of}
use Rattle.cli_tests.specs.PolicyTest.{HasNoFindings}
use Rattle.cli_tests.specs.ScenarioTest.{IsFound}
use Rattle.cli_tests.proofs.ResultLemmas.{listed_result, unlisted_result}
use Rattle.cli_tests.proofs.list_test.test_machine.Goals as goal

pub returns-in-Ok : goal.returns-in-Ok
returns-in-Ok g c =
    let found : IsFound (g.H.Host.text_at c.args.host.now) c.args.settings (Some c.args.path.now) (Ok c.in-Ok.machine) = subst
    (λ found. IsFound (g.H.Host.text_at c.args.host.now) c.args.settings (Some c.args.path.now) found) c.in-Ok.is c.requires in
    listed_result (g.H.Host.text_at c.args.host.now) c.args.settings HasNoFindings c.args.path.now c.args.path.now
    (bytes_of c.in-Ok.machine.text) c.test_text.result refl found.0.1 c.test_text.ensures

pub returns-in-Err : goal.returns-in-Err
returns-in-Err g c =
    let found : IsFound (g.H.Host.text_at c.args.host.now) c.args.settings (Some c.args.path.now) (Err c.in-Err.failure) = subst
    (λ found. IsFound (g.H.Host.text_at c.args.host.now) c.args.settings (Some c.args.path.now) found) c.in-Err.is c.requires in
    unlisted_result (g.H.Host.text_at c.args.host.now) c.args.settings HasNoFindings c.args.path.now c.args.path.now c.in-Err.failure
    c.without_list.result refl found.1 c.without_list.ensures.memory c.without_list.ensures.failed
