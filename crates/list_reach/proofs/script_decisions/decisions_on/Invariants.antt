use Rattle.std.proofs.Common.{take}
use Rattle.list_reach.specs.ScriptDecisions.{AreDecisionsOn}
use Rattle.list_reach.proofs.script_decisions.decisions_on.Given as goal

abbrev pub invariant-loop-place : goal.invariant-loop-place
invariant-loop-place l = AreDecisionsOn l.list (take l.place l.asked) l.found.items
