use Rattle.std.proofs.Common.{◌≡◌, take}
use Rattle.list_parts.proofs.list_part.EntrySteps.copy.Given as goal

abbrev pub invariant-loop-step : goal.invariant-loop-step
invariant-loop-step l = l.steps ≡ take l.step-index l.step-items
