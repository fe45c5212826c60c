-- The sessions of the places that were passed are closed.
use Rattle.pd_core.specs.Exit.{ClosesTo}
use Rattle.pd_core.proofs.exit.close_all.Given as goal

abbrev pub invariant-loop-place : goal.invariant-loop-place
invariant-loop-place l = ClosesTo l.caller l.place l.initial.memory l.initial.components l.memory l.components
