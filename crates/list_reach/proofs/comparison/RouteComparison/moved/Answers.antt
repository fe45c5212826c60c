-- The set of the classes whose labels are moved, and a shortest one.
use Rattle.std.proofs.Common.{◌∙◌, Bool, List, ap, map, subst}
use Rattle.list_classes.specs.Described.{AreWhole, IsUnionOf}
use Rattle.list_reach.specs.RoutedLabels.{IsWitness, RoutedLabel, is_moved}
use Rattle.list_reach.proofs.ComparisonLemmas.{set_found}
use Rattle.list_reach.proofs.comparison.RouteComparison.moved.Goals as goal

pub returns : goal.returns
returns c =
    let comparison = c.args.self.now in
    set_found c.args.moves comparison c.in_ok-inside.inside.items c.shortest_label.result c.in_ok-described.field-0
    (c.in_ok-inside.ensures ∙ ap (map (is_moved c.args.moves)) c.as_slice-routed.ensures.value)
    (subst (λ (i : List Bool). AreWhole comparison.classes → IsUnionOf comparison.classes i c.in_ok-described.field-0) c.as_slice.ensures.value
    c.in_ok-described.ensures)
    (subst (λ (r : List RoutedLabel). IsWitness (is_moved c.args.moves) r c.shortest_label.result) c.as_slice-routed.ensures.value c.shortest_label.ensures)
