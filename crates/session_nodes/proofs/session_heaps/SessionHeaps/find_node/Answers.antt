-- The node's payload starts there, and holds its bytes.
use Rattle.std.proofs.Common.{ap, is_some, arith}
use Rattle.session_nodes.proofs.NodeFoundLemmas.{payload_there, finds_node}
use Rattle.session_nodes.proofs.NodeStoreLemmas.{range_low}
use Rattle.session_nodes.proofs.session_heaps.SessionHeaps.find_node.Goals as goal

pub payload_at-requires-clause-there : goal.payload_at-requires-clause-there
payload_at-requires-clause-there c = ap is_some (payload_there c.requires.furnished c.args.address c.requires.there 0 1 (omega arith) (omega arith))

pub returns-clause-found : goal.returns-clause-found
returns-clause-found c into count some few =
    let there = payload_there c.requires.furnished c.args.address c.requires.there into count some few in
    let long = c.requires.there.within in
    finds_node c.requires.furnished c.args.address c.requires.there into count some few c.payload_at.result.0.0 _
    (c.payload_at.ensures.held _ into count there some (omega (arith, long, few)))

pub returns-clause-low : goal.returns-clause-low
returns-clause-low c =
    let there = payload_there c.requires.furnished c.args.address c.requires.there 0 96 (omega arith) (omega arith) in
    let low = range_low c.args.self.now.nodes c.args.memory.now c.args.map.now c.requires.furnished.sound _ _ _ 96 (c.payload_at.ensures.held _ 0 96 there (omega arith) (omega (arith, c.requires.there.within))) in
    omega (arith, low)
