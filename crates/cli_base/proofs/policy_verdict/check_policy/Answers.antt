-- The verdict of the text that was read.
use Rattle.std.proofs.Common.{subst, sym}
use Rattle.list_policy.specs.Verdict.{IsVerdict}
use Rattle.cli_base.specs.Files.{IsTextAt}
use Rattle.cli_base.specs.PolicyVerdict.{HasNoPolicy, verdict_notes}
use Rattle.cli_base.proofs.VerdictLemmas.{at_text}
use Rattle.cli_base.proofs.policy_verdict.check_policy.Goals as goal

pub returns-in-Ok : goal.returns-in-Ok
returns-in-Ok g c =
    let texts = g.H.Host.text_at c.args.host.now in
    at_text verdict_notes (HasNoPolicy texts c.args.path.now) (IsTextAt texts c.args.path.now) (IsVerdict c.args.list.now)
    c.deref.result.now c.verdict_of.result
    (subst (λ t. IsTextAt texts c.args.path.now t) (sym c.deref.ensures.value) c.in-Ok.ensures.text) c.verdict_of.ensures
