-- The value is one of the rest.
use Rattle.std.proofs.Common.{◌≡◌, drop}
use Rattle.budget_least.specs.MemberValues.{value_or}
use Rattle.budget_least.specs.ValueWriters.{arounds_of, values_of}
use Rattle.budget_least.proofs.member_values.value_or.Given as goal

abbrev pub invariant-loop-value : goal.invariant-loop-value
invariant-loop-value l = value_or (values_of l.values) (arounds_of l.containers) l.own ≡ value_or (values_of (drop l.value-index l.values)) (arounds_of l.containers) l.own
