-- The machine is that of the list next to the scenario, or else another one.
use Rattle.std.proofs.Common.{Bool, IfOk, Ok, Err, Result, Some, ◌≡◌, ◌∙◌, ap, inl, inr, option_copied, refl, subst, sym}
use Rattle.view_test_report.specs.declared.test_result.TestResult.{TestResult}
use Rattle.cli_base.specs.Files.{IsUnknown}
use Rattle.cli_tests.specs.ScenarioTest.{IsScenarioResult}
use Rattle.cli_tests.proofs.ScenarioLemmas.{scenario_result}
use Rattle.cli_tests.proofs.scenario_test.test_scenario.Goals as goal

-- a note doesn't change whether a test passes
noted_result : {E : Type 0} (Holds : Bool → Type 0) (trial : TestResult) (result : Result TestResult E)
    → IfOk result (λ test. test.passed ≡ trial.passed) → Holds trial.passed → IfOk result (λ test. Holds test.passed)
noted_result Holds trial (Ok test) same holds = subst Holds (sym same) holds
noted_result Holds trial (Err error) same holds = tt

pub returns-then-not-may_exist : goal.returns-then-not-may_exist
returns-then-not-may_exist g c =
    let texts = g.H.Host.text_at c.args.host.now in
    let other = option_copied c.args.conditions.asked.now.machine in
    noted_result
    (λ passed. IsScenarioResult texts c.args.conditions.settings other c.args.scenario.now passed)
    c.in_ok-trial.trial c.noted.result c.noted.ensures
    (scenario_result {E = Bool} texts c.args.conditions.settings other other c.args.conditions.other.now
    c.args.scenario.now (Ok c.in_ok-trial.trial)
    (inr (refl, subst (λ path. IsUnknown texts path) (c.as_str.ensures.value ∙ c.in_ok-list.ensures) (c.may_exist.ensures c.if-not-may_exist.true)))
    c.requires c.in_ok-trial.ensures)

pub returns : goal.returns
returns g c =
    let texts = g.H.Host.text_at c.args.host.now in
    let other = option_copied c.args.conditions.asked.now.machine in
    scenario_result texts c.args.conditions.settings other (Some c.as_str-2.result.now) c.find-machine.result
    c.args.scenario.now c.test_on-2.result (inl (ap Some (c.as_str-2.ensures.value ∙ c.in_ok-list.ensures)))
    (c.find-machine.ensures.found, c.find-machine.ensures.failed) c.test_on-2.ensures
