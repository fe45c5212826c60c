use Rattle.list_reach.specs.DecisionOrder.{AreSeen}
use Rattle.list_reach.proofs.route_decisions.RouteDecisions.of.Given as goal

abbrev pub invariant-loop-size : goal.invariant-loop-size
invariant-loop-size l = AreSeen l.wishes.list.now l.wishes.client l.wishes.service.now l.classes.classes.items l.size 0 l.trails.items
