-- The verdict of a policy without faults.
use Rattle.list_policy.proofs.VerdictLemmas.{held_is}
use Rattle.cli_base.specs.PolicyVerdict.{found_at}
use Rattle.cli_base.proofs.policy_verdict.verdict_of.Goals as goal

pub returns-then-is_empty : goal.returns-then-is_empty
returns-then-is_empty c =
    held_is c.args.list.now c.args.text.now c.in_ok-policy.policy c.lines.result.now c.faults-faults.result.now (found_at c.in_ok-found.found)
    c.is_empty.result c.in_ok-policy.ensures c.faults-faults.ensures c.is_empty.ensures c.if-is_empty.true c.lines.ensures
    c.in_ok-found.ensures.broken c.in_ok-found.ensures.void
