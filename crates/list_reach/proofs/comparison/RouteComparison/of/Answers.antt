-- The labels of classes, as both lists route them.
use Rattle.std.proofs.Common.{◌∙◌, ◌++◌, ap, map}
use Rattle.list_reach.specs.RoutedLabels.{class_routes, routed_on}
use Rattle.list_reach.proofs.ComparisonLemmas.{compared_by}
use Rattle.list_reach.proofs.comparison.RouteComparison.of.Goals as goal

pub returns : goal.returns
returns c =
    compared_by c.args.before c.args.after _ c.in_ok-classes.ensures.whole c.in_ok-classes.ensures.one c.in_ok-classes.ensures.other
    (c.in_ok-add_classes.ensures
    ∙ (ap (λ o. o ++ map (class_routes (routed_on c.args.before) (routed_on c.args.after)) c.as_slice.result.now) c.new-routed.ensures.items
    ∙ ap (map (class_routes (routed_on c.args.before) (routed_on c.args.after))) c.as_slice.ensures))
