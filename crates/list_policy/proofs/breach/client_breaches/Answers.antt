-- One server more.
use Rattle.list_policy.specs.Line.{line_at}
use Rattle.list_policy.proofs.BreachLemmas.{pair_more}
use Rattle.list_policy.proofs.breach.client_breaches.Goals as goal

pub loop-server-preserved : goal.loop-server-preserved
loop-server-preserved c =
    pair_more c.args.list.now (line_at c.args.line.now) c.args.client c.loop-server.server c.loop-server.found.items
    c.add_if.new.found.items c.in_ok-breach.breach c.loop-server.invariant c.in_ok-breach.ensures c.in_ok-add_if.ensures
