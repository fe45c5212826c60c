use Rattle.std.proofs.Common.{take}
use Rattle.std.specs.Option.{option_copied}
use Rattle.list_reach.specs.RoutedLabels.{is_moved, routed_length}
use Rattle.list_reach.specs.Shortest.{IsShortest}
use Rattle.list_reach.proofs.comparison.shortest.Given as goal

abbrev pub invariant-loop-place : goal.invariant-loop-place
invariant-loop-place l = IsShortest routed_length (is_moved l.moves) (take l.place l.routed) (option_copied l.best)
