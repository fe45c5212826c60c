use Rattle.list_reach.specs.DecisionOrder.{AreSeen}
use Rattle.list_reach.proofs.route_decisions.keep_all_of.Given as goal

abbrev pub invariant-loop-place : goal.invariant-loop-place
invariant-loop-place l = AreSeen l.wishes.list.now l.wishes.client l.wishes.service.now l.classes l.size l.place l.trails.items
