-- By the test's file.
use Rattle.std.proofs.Common.{IfOk, List, option_copied, subst, ℕ}
use Rattle.cli_tests.specs.PolicyTest.{IsCheckResult, IsPolicyResult}
use Rattle.cli_tests.specs.ScenarioTest.{IsScenarioResult}
use Rattle.cli_tests.proofs.test.run_test.Goals as goal

pub returns-in-Scenario : goal.returns-in-Scenario
returns-in-Scenario g c =
    let texts = g.H.Host.text_at c.args.host.now in
    let asked = c.args.conditions.asked.now in
    rw c.in-Scenario.is
    (subst
    (λ (path : List ℕ). IfOk c.test_scenario.result
    (λ trial. IsScenarioResult texts c.args.conditions.settings (option_copied asked.machine) path trial.passed))
    c.as_str.ensures.value c.test_scenario.ensures)

pub returns-in-Policy : goal.returns-in-Policy
returns-in-Policy g c =
    rw c.in-Policy.is
    (subst
    (λ (path : List ℕ). IfOk c.test_policy.result
    (λ trial. IsPolicyResult (g.H.Host.text_at c.args.host.now) c.args.conditions.asked.now.strict c.args.conditions.settings path trial.passed))
    c.as_str-in-Policy.ensures.value c.test_policy.ensures)

pub returns-in-List : goal.returns-in-List
returns-in-List g c =
    rw c.in-List.is
    (subst
    (λ (path : List ℕ). IfOk c.test_list.result
    (λ trial. IsCheckResult (g.H.Host.text_at c.args.host.now) c.args.conditions.settings path trial.passed))
    c.as_str-in-List.ensures.value c.test_list.ensures)
