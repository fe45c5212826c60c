use Rattle.std.proofs.Common.{◌≡◌, Ok, drop, map}
use Rattle.list_reach.specs.Paths.{joined, joined_all, numbers_of, numbers_of_path, trimmed}
use Rattle.list_reach.proofs.component_numbers.numbers.Given as goal

abbrev pub invariant-loop-place : goal.invariant-loop-place
invariant-loop-place l =
    numbers_of l.list l.sought l.paths
    ≡ joined (Ok l.found.items)
    (joined_all (λ path. numbers_of_path l.list l.sought (trimmed path)) (map (λ piece. piece.now) (drop l.place l.pieces.items)))
