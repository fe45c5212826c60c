-- No bytes need no content, and a content that is taken is no node's.
use Rattle.std.proofs.Common.{◌<◌, arith}
use Rattle.object_service.proofs.TakenLemmas.{if_ok_mapped, takes_none, takes_some}
use Rattle.session_nodes.specs.SessionHeaps.{stock_of}
use Rattle.object_service.proofs.object_requests.take_content.Goals as goal

pub returns-then-size-eq0-clause-taken : goal.returns-then-size-eq0-clause-taken
returns-then-size-eq0-clause-taken c = takes_none (stock_of c.args.heaps.now c.args.memory.now c.args.map.now) c.args.size (omega arith)

pub returns-clause-taken : goal.returns-clause-taken
returns-clause-taken c =
    let some : 0 < c.args.size = omega arith in
    if_ok_mapped c.take_content.result c.map_err.result _ c.map_err.ensures.cases c.map_err.ensures.variant c.take_content.ensures.taken c.take_content.ensures.free
    (λ content is free. takes_some c.args.size content _ _ some free is)
