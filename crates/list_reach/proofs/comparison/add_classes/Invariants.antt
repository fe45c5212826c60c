use Rattle.std.proofs.Common.{◌≡◌, ◌++◌, drop, map}
use Rattle.list_reach.specs.RoutedLabels.{class_routes, routed_on}
use Rattle.list_reach.proofs.comparison.add_classes.Given as goal

abbrev pub invariant-loop-place : goal.invariant-loop-place
invariant-loop-place l =
    l.routed.items ++ map (class_routes (routed_on l.before) (routed_on l.after)) (drop l.place l.classes)
    ≡ l.initial.routed.items ++ map (class_routes (routed_on l.before) (routed_on l.after)) l.classes
