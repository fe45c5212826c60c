-- The marks that are left are still to be crossed.
use Rattle.std.proofs.Common.{◌≡◌, length}
use Rattle.line_steps.specs.RunPosition.{arrived_at}
use Rattle.line_steps.proofs.run_position.cross_due.Given as goal

abbrev pub invariant-loop-mark : goal.invariant-loop-mark
invariant-loop-mark l = arrived_at l.at l.known l.ahead ≡ arrived_at l.number l.initial.known l.marks

abbrev pub decreases-loop-mark : goal.decreases-loop-mark
decreases-loop-mark l = length l.ahead
