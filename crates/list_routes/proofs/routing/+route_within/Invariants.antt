use Rattle.list_routes.proofs.routing.+route_within.Given as goal

abbrev pub decreases-route_within : goal.decreases-route_within
decreases-route_within l = l.lists
