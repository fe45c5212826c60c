-- The verdict on the list.
use Rattle.std.proofs.Common.{subst}
use Rattle.own_model.specs.Listed.{Listed}
use Rattle.cli_base.specs.PolicyVerdict.{IsVerdictAt}
use Rattle.cli_tests.proofs.policy_test.checked.Goals as goal

pub returns : goal.returns
returns g c = (
  c.in_ok-verdict.verdict,
  subst (λ (list : Listed). IsVerdictAt (g.H.Host.text_at c.args.host.now) c.args.policy.now list c.in_ok-verdict.verdict) c.list.ensures
      c.in_ok-verdict.ensures,
  c.result_of.ensures,
)
