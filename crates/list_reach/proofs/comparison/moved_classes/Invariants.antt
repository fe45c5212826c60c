use Rattle.std.proofs.Common.{◌≡◌, ◌++◌, drop, map}
use Rattle.list_reach.specs.RoutedLabels.{is_moved}
use Rattle.list_reach.proofs.comparison.moved_classes.Given as goal

abbrev pub invariant-loop-one : goal.invariant-loop-one
invariant-loop-one l =
    l.inside.items ++ map (is_moved l.moves) (drop l.one-index l.routed) ≡ map (is_moved l.moves) l.routed
