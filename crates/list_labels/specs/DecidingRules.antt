-- Which rules decide to which entry a client's request for a service is routed.
use Rattle.std.specs.Prelude.{ℕ, List, [], ◌∷◌, flat_map, Option, Some, None}
use Rattle.own_model.specs.Listed.{Listed}
use Rattle.list_labels.specs.RouteSteps.{RouteStepAt, route_steps_of}

-- a rule's place, if a rule decides
abbrev pub decided : Option ℕ → List ℕ
decided None = []
decided (Some place) = place ∷ []

-- the places of the rules that decide a client's request, list by list outward. If the last of them routes outward to a list
-- without a matching rule, that list has no place here.
unfoldable pub decision_of : Listed → ℕ → List ℕ → List ℕ → List ℕ
decision_of list client service label = flat_map (λ (hop : RouteStepAt). decided hop.rule) (route_steps_of list client service label)
