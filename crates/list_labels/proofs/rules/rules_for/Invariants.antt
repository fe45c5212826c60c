use Rattle.std.proofs.Common.{◌≡◌, ◌++◌, drop}
use Rattle.std.specs.List.{flat_map}
use Rattle.list_labels.specs.DecidingRules.{decided, decision_of}
use Rattle.list_labels.specs.RouteSteps.{RouteStepAt}
use Rattle.list_labels.proofs.rules.rules_for.Given as goal

-- what is told so far and what is to be told of the lists outward
abbrev pub invariant-loop-hop : goal.invariant-loop-hop
invariant-loop-hop l =
    l.rules.items ++ flat_map (λ (hop : RouteStepAt). decided hop.rule) (drop l.hop-index l.hop-items)
    ≡ decision_of l.wishes.list.now l.wishes.client l.wishes.service.now l.label
