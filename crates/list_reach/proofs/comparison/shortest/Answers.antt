-- One label more.
use Rattle.std.proofs.Common.{◌≡◌, ◌∙◌, ◌+◌, ◌++◌, ◌∷◌, [], ap, subst, sym, take}
use Rattle.std.specs.Option.{option_copied}
use Rattle.std.proofs.lemmas.List.{take_more}
use Rattle.list_reach.specs.RoutedLabels.{is_moved, routed_length}
use Rattle.list_reach.specs.Shortest.{IsShortest}
use Rattle.list_reach.proofs.comparison.shortest.Goals as goal

pub loop-place-preserved : goal.loop-place-preserved
loop-place-preserved c =
    let routed = c.args.routed.now in
    let seen = take c.loop-place.place routed in
    let one = c.index-routed-place.result in
    let more : take (c.loop-place.place + 1) routed ≡ seen ++ one ∷ [] =
    take_more routed c.loop-place.place one c.loop-place-test.true ∙ ap (λ o. seen ++ o ∷ []) (sym c.index-routed-place.is) in
    subst (λ s. IsShortest routed_length (is_moved c.args.moves) s (option_copied c.better-best.result)) (sym more)
    (c.better-best.ensures seen c.loop-place.invariant)
