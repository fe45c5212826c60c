use Rattle.list_policy.specs.Demand.{FindsBelow, FindsFor}
use Rattle.list_policy.specs.Line.{line_at}
use Rattle.list_policy.proofs.demand.PolicyLine.breaches.Given as goal

abbrev pub invariant-loop-client : goal.invariant-loop-client
invariant-loop-client l = FindsBelow (FindsFor l.list (line_at l.self)) l.client l.found.items
