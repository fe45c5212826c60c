-- The rest of the steps leads there.
use Rattle.std.proofs.Common.{◌≡◌, drop}
use Rattle.budget_least.specs.MemberValues.{leads_to}
use Rattle.budget_least.specs.ValueWriters.{arounds_of, steps_of}
use Rattle.budget_least.proofs.member_values.leads_to.Given as goal

abbrev pub invariant-loop-place : goal.invariant-loop-place
invariant-loop-place l = leads_to (steps_of l.steps) (arounds_of l.containers) ≡ leads_to (steps_of (drop l.place l.steps)) (arounds_of (drop l.place l.containers))
