use Rattle.std.proofs.Common.{Some, take}
use Rattle.std.specs.Option.{option_copied}
use Rattle.list_reach.specs.RangeReach.{is_routed_in, witness_length}
use Rattle.list_reach.specs.RoutedLabels.{routed_on}
use Rattle.list_reach.specs.Shortest.{IsShortest}
use Rattle.list_reach.proofs.client_reach.shortest.Given as goal

abbrev pub invariant-loop-place : goal.invariant-loop-place
invariant-loop-place l =
    IsShortest witness_length (is_routed_in l.range (routed_on (Some l.wishes)) l.server) (take l.place l.classes) (option_copied l.best)
