-- A policy that isn't there isn't known.
use Rattle.std.proofs.Common.{◌∙◌, inl, inr, refl, subst}
use Rattle.cli_base.specs.Files.{IsUnknown}
use Rattle.cli_tests.proofs.planned_test.policy_next_to.Goals as goal

pub returns-then-not-may_exist : goal.returns-then-not-may_exist
returns-then-not-may_exist g c =
    inr (
      subst (λ path. IsUnknown (g.H.Host.text_at c.args.host.now) path) (c.as_str.ensures.value ∙ c.in_ok-policy.ensures)
          (c.may_exist.ensures c.if-not-may_exist.true),
      refl,
    )

pub returns : goal.returns
returns g c = inl (c.in_ok-policy.policy, refl, c.in_ok-policy.ensures)
