-- The rules by which requests with a label are routed on two start lists.
use Rattle.std.specs.Prelude.{◌≡◌, ℕ, List, Option, Some, None}
use Rattle.own_model.specs.Listed.{Listed}
use Rattle.list_labels.specs.RouteSteps.{route_steps_of}
use Rattle.list_reach.specs.RouteQuery.{script_named}
use Rattle.list_reach.specs.declared.route_path.RoutePath.{RoutePath}
use Rattle.list_diff.specs.Routes.{Pair, routes}
use Rattle.list_diff.specs.declared.moved_labels.MovedLabels.{MovedLabels}

-- a route path is that of a request of a pair's script: it ends at the entry to which the list routes the request, and has the rules
-- that decide it, list by list
pub record IsRouteWith (list : Listed) (pair : Pair) (label : List ℕ) (course : RoutePath) : Type 0 where
  pub client : script_named list pair.client.path ≡ Some course.client
  pub child : course.child ≡ routes list pair.client.path pair.service label
  pub hops : course.hops.items ≡ route_steps_of list course.client pair.service label

-- there is none only if there is no label, or the list has no such script
abbrev pub IsRoute : Listed → Pair → Option (List ℕ) → Option RoutePath → Type 0
IsRoute list pair None course = course ≡ None
IsRoute list pair (Some label) None = script_named list pair.client.path ≡ None
IsRoute list pair (Some label) (Some course) = IsRouteWith list pair label course

-- the route paths of the witness on both lists
pub record AreMoved (before after : Listed) (pair : Pair) (moved : MovedLabels) : Type 0 where
  pub was : IsRoute before pair moved.set.witness moved.was
  pub now : IsRoute after pair moved.set.witness moved.now
