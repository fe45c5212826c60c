use Rattle.std.proofs.Common.{◌≡◌, Ok, drop}
use Rattle.list_reach.specs.Paths.{joined, numbers_of_all}
use Rattle.list_reach.proofs.reach_filter.all_numbers.Given as goal

abbrev pub invariant-loop-place : goal.invariant-loop-place
invariant-loop-place l = numbers_of_all l.list l.sought l.texts ≡ joined (Ok l.found.items) (numbers_of_all l.list l.sought (drop l.place l.texts))
