-- One class more.
use Rattle.std.proofs.Common.{◌≡◌, ◌∙◌, ◌+◌, ◌++◌, ◌∷◌, [], Some, ap, subst, sym, take}
use Rattle.std.specs.Option.{option_copied}
use Rattle.std.proofs.lemmas.List.{take_more}
use Rattle.list_reach.specs.RangeReach.{is_routed_in, witness_length}
use Rattle.list_reach.specs.RoutedLabels.{routed_on}
use Rattle.list_reach.specs.Shortest.{IsShortest}
use Rattle.list_reach.proofs.client_reach.shortest.Goals as goal

pub loop-place-preserved : goal.loop-place-preserved
loop-place-preserved c =
    let classes = c.args.classes.now in
    let seen = take c.loop-place.place classes in
    let one = c.index-classes-place.result in
    let more : take (c.loop-place.place + 1) classes ≡ seen ++ one ∷ [] =
    take_more classes c.loop-place.place one c.loop-place-test.true ∙ ap (λ o. seen ++ o ∷ []) (sym c.index-classes-place.is) in
    subst
    (λ s. IsShortest witness_length (is_routed_in c.args.range.now (routed_on (Some c.args.wishes)) c.args.server) s (option_copied c.better-best.result))
    (sym more) (c.better-best.ensures seen c.loop-place.invariant)
