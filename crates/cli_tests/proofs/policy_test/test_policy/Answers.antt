-- The policy is checked against the list next to it.
use Rattle.std.proofs.Common.{◌∙◌, ℕ, List}
use Rattle.cli_base.specs.MachineChoice.{list_beside}
use Rattle.cli_tests.specs.PolicyTest.{IsKeptBy}
use Rattle.cli_tests.proofs.ResultLemmas.{listed_result, no_list_result, unlisted_result}
use Rattle.cli_tests.proofs.policy_test.test_policy.Goals as goal

pub returns-then-not-may_exist : goal.returns-then-not-may_exist
returns-then-not-may_exist g c =
    no_list_result (g.H.Host.text_at c.args.host.now) c.args.strict c.args.settings c.args.policy.now c.as_str.result.now
    c.unchecked.result.passed (c.as_str.ensures.value ∙ c.in_ok-list.ensures) (c.may_exist.ensures c.if-not-may_exist.true) c.unchecked.ensures

pub returns-in-Ok : goal.returns-in-Ok
returns-in-Ok g c =
    listed_result (g.H.Host.text_at c.args.host.now) c.args.settings
    (λ (text : List ℕ). IsKeptBy (g.H.Host.text_at c.args.host.now) c.args.strict c.args.policy.now) c.as_str-2.result.now
    (list_beside c.args.policy.now) _ c.test_list.result (c.as_str-2.ensures.value ∙ c.in_ok-list.ensures) c.in-Ok.ensures.found.1
    c.test_list.ensures

pub returns : goal.returns
returns g c =
    unlisted_result (g.H.Host.text_at c.args.host.now) c.args.settings
    (λ (text : List ℕ). IsKeptBy (g.H.Host.text_at c.args.host.now) c.args.strict c.args.policy.now) c.as_str-2.result.now
    (list_beside c.args.policy.now) c.in-Err.failure c.without_list.result (c.as_str-2.ensures.value ∙ c.in_ok-list.ensures)
    c.in-Err.ensures.failed c.without_list.ensures.memory c.without_list.ensures.failed
