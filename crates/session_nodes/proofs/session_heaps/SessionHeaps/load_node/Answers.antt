-- The bytes that are read are the front of the payload.
use Rattle.std.proofs.Common.{◌≡◌, ◌+◌, ap, ◌∙◌, arith}
use Rattle.std.specs.Prelude.{slice_range}
use Rattle.dataspace_core.specs.Store.{space_at}
use Rattle.session_nodes.specs.Node.{node_of}
use Rattle.session_nodes.proofs.NodeFoundLemmas.{node_read}
use Rattle.session_nodes.proofs.NodeLemmas.{node_front}
use Rattle.session_nodes.proofs.session_heaps.SessionHeaps.load_node.Goals as goal

pub returns-clause-value : goal.returns-clause-value
returns-clause-value c =
    let found = c.find_node-offset.ensures.found 0 64 (omega arith) (omega arith) in
    let zero : c.find_node-offset.result.1 ≡ c.find_node-offset.result.1 + 0 = omega arith in
    c.from_bytes.ensures.value
    ∙ ap node_of (c.read.ensures ∙ (λ i. slice_range (space_at c.args.memory.now c.find_node-offset.result.0.0).bytes (zero i) (zero i + 64))
    ∙ node_read c.requires.furnished c.args.address c.requires.there 0 64 (omega arith) (omega arith) c.find_node-offset.result.0.0 _ found.held)
    ∙ node_front _ (omega (arith, c.requires.there.within))

pub read-requires-clause-range : goal.read-requires-clause-range
read-requires-clause-range c = let found = c.find_node-offset.ensures.found 0 64 (omega arith) (omega arith) in omega (arith, found.there.within)
