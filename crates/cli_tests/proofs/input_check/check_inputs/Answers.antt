-- A test has an input that is refused.
use Rattle.std.proofs.Common.{subst}
use Rattle.std.proofs.lemmas.Result.{err_from_is_err_and}
use Rattle.cli_tests.specs.Outcome.{IsNoInput}
use Rattle.cli_tests.specs.declared.planned_test.PlannedTest.{PlannedTest}
use Rattle.cli_tests.proofs.PlanLemmas.{lacks_input}
use Rattle.cli_tests.proofs.input_check.check_inputs.Goals as goal

pub returns-in_err-check_test : goal.returns-in_err-check_test
returns-in_err-check_test g c =
    let texts = g.H.Host.text_at c.args.host.now in
    let p = err_from_is_err_and c.from_residual-in_err-check_test.result c.from_residual-in_err-check_test.ensures.1 in
    rw (p.1, p.2)
    (λ room. lacks_input texts c.args.machine c.args.junit c.args.tests.now c.loop-test.test-index c.test-item.result c.loop-test-test.true
    (subst (λ (test : PlannedTest). IsNoInput texts c.args.junit test) c.test-item.is (c.in_err-check_test.ensures room)))
