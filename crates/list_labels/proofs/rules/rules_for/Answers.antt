-- Nothing is told at first, and then of one hop after another what it decides.
use Rattle.std.proofs.Common.{◌++◌, ◌∙◌, ap, refl, sym}
use Rattle.std.specs.List.{flat_map}
use Rattle.list_labels.specs.DecidingRules.{decided, decision_of}
use Rattle.list_labels.specs.RouteSteps.{RouteStepAt, route_steps_of}
use Rattle.list_labels.proofs.HopLemmas.{decided_more}
use Rattle.list_labels.proofs.rules.rules_for.Goals as goal

pub loop-hop-init : goal.loop-hop-init
unfolding decision_of
loop-hop-init c =
    ap (λ xs. xs ++ flat_map (λ (hop : RouteStepAt). decided hop.rule) c.as_slice-hop-items.result.now) c.new-rules.ensures.items
    ∙ (ap (λ hops. flat_map (λ (hop : RouteStepAt). decided hop.rule) hops) (c.as_slice-hop-items.ensures.value ∙ c.in_ok-steps.ensures)
    ∙ ap (λ l. flat_map (λ (hop : RouteStepAt). decided hop.rule) (route_steps_of c.args.wishes.list.now c.args.wishes.client c.args.wishes.service.now l)) c.as_bytes.ensures.bytes)

pub loop-hop-preserved : goal.loop-hop-preserved
loop-hop-preserved c =
    decided_more c.as_slice-hop-items.result.now c.hop-item.result c.loop-hop.hop-index _ c.loop-hop.rules.items _ _ refl c.loop-hop-test.true
    (sym c.hop-item.is) c.in_ok-add_decided.ensures c.loop-hop.invariant
