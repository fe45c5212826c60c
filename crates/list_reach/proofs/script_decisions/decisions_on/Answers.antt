-- The decisions on the requests at one place more.
use Rattle.std.proofs.Common.{◌≡◌, ◌∙◌, ◌+◌, ◌++◌, ◌∷◌, [], ap, subst, sym, take}
use Rattle.std.proofs.lemmas.List.{take_more}
use Rattle.std.proofs.lemmas.List.Elements.{All-contains}
use Rattle.list_reach.specs.ScriptDecisions.{AreDecisionsOn, IsAsking}
use Rattle.list_reach.proofs.script_decisions.decisions_on.Goals as goal

pub add_decisions-requires-clause-asked : goal.add_decisions-requires-clause-asked
add_decisions-requires-clause-asked c =
    All-contains (IsAsking c.args.list.now) c.args.asked.now c.index-asked-place.result c.requires.asked
    (c.loop-place.place, c.loop-place-test.true, sym c.index-asked-place.is)

pub add_decisions-requires-clause-decided : goal.add_decisions-requires-clause-decided
add_decisions-requires-clause-decided c = c.loop-place.invariant.decided

pub loop-place-preserved : goal.loop-place-preserved
loop-place-preserved c =
    let asked = c.args.asked.now in
    let seen = take c.loop-place.place asked in
    let one = c.index-asked-place.result in
    let more : take (c.loop-place.place + 1) asked ≡ seen ++ one ∷ [] =
    take_more asked c.loop-place.place one c.loop-place-test.true ∙ ap (λ o. seen ++ o ∷ []) (sym c.index-asked-place.is) in
    record {
      asked = c.in_ok-add_decisions.ensures.added ∙ (ap (λ s. s ++ one ∷ []) c.loop-place.invariant.asked ∙ sym more);
      decided = c.in_ok-add_decisions.ensures.sound;
    }
