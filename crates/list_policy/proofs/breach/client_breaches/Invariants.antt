use Rattle.list_policy.specs.Demand.{FindsBelow, FindsOne}
use Rattle.list_policy.specs.Line.{line_at}
use Rattle.list_policy.proofs.breach.client_breaches.Given as goal

abbrev pub invariant-loop-server : goal.invariant-loop-server
invariant-loop-server l = FindsBelow (FindsOne l.list (line_at l.line) l.client) l.server l.found.items
