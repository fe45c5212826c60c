-- Nothing of the other text is left.
use Rattle.std.proofs.Common.{arith}
use Rattle.run_scenario.proofs.TextLemmas.{common_over}
use Rattle.run_scenario.proofs.complaint.common.Goals as goal

pub returns-else-alike-other-clause-value : goal.returns-else-alike-other-clause-value
returns-else-alike-other-clause-value c = omega (arith, c.loop-alike.invariant.alike, common_over c.args.text.now c.args.other.now c.loop-alike.alike c.if-alike-other.false)
