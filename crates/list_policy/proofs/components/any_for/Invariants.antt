use Rattle.std.proofs.Common.{◌≡◌}
use Rattle.list_reach.specs.Paths.{numbers_below}
use Rattle.list_policy.specs.Components.{any_at}
use Rattle.list_policy.proofs.components.any_for.Given as goal

abbrev pub invariant-loop-number : goal.invariant-loop-number
invariant-loop-number l = l.found.items ≡ numbers_below (any_at l.list l.path) l.number
