use Rattle.std.proofs.Common.{◌≡◌}
use Rattle.list_reach.specs.Paths.{denotes_at, numbers_below}
use Rattle.list_reach.proofs.component_numbers.numbers_for.Given as goal

abbrev pub invariant-loop-number : goal.invariant-loop-number
invariant-loop-number l = l.found.items ≡ numbers_below (denotes_at l.list l.sought l.path) l.number
