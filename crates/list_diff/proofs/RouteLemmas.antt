-- The route path of a request with a label.
use Rattle.std.proofs.Common.{◌≡◌, ◌∙◌, ℕ, List, Some, sym, ap}
use Rattle.own_model.specs.Listed.{Listed}
use Rattle.list_labels.specs.GivenLabels.{leads_to}
use Rattle.list_labels.specs.RouteSteps.{route_steps_of}
use Rattle.list_labels.specs.declared.session_requests.SessionRequests.{SessionRequests}
use Rattle.list_reach.specs.RouteQuery.{script_named}
use Rattle.list_reach.specs.declared.route_path.RoutePath.{RoutePath}
use Rattle.list_diff.specs.Moves.{IsRouteWith}
use Rattle.list_diff.specs.Routes.{Pair, routes}

-- a path of the requests of a pair's script
pub route_is : (list : Listed) (pair : Pair) (label : List ℕ) (requests : SessionRequests) (course : RoutePath) → requests.list.now ≡ list
    → requests.service.now ≡ pair.service → Some requests.client ≡ script_named list pair.client.path
    → leads_to requests.list.now requests.client requests.service.now label ≡ routes list pair.client.path pair.service label
    → course.client ≡ requests.client → course.child ≡ leads_to requests.list.now requests.client requests.service.now label
    → course.hops.items ≡ route_steps_of requests.list.now requests.client requests.service.now label → IsRouteWith list pair label course
route_is list pair label requests course lists services named led client child hops =
    record {
      client = sym named ∙ ap Some (sym client);
      child = child ∙ led;
      hops = hops ∙ (ap (λ l. route_steps_of l requests.client requests.service.now label) lists
          ∙ (ap (λ s. route_steps_of list requests.client s label) services ∙ ap (λ c. route_steps_of list c pair.service label) (sym client)));
    }
