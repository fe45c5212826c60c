-- The bytes are put over the front of the payload, and nothing else changes.
use Rattle.std.proofs.Common.{◌+◌, length, arith}
use Rattle.heap_core.proofs.WordsLemmas.{below_bytes}
use Rattle.dataspace_core.specs.Store.{part_with_bytes}
use Rattle.dataspace_core.proofs.PartLaws.{becomes_paid}
use Rattle.session_nodes.proofs.NodeFoundLemmas.{node_paid}
use Rattle.session_nodes.proofs.NodeStoredLemmas.{stored_is, stored_keeps, stored_there}
use Rattle.session_nodes.specs.SessionHeaps.{stock_of}
use Rattle.session_nodes.proofs.UserLemmas.{user_stored}
use Rattle.session_nodes.proofs.session_heaps.SessionHeaps.put_bytes.Goals as goal

pub returns : goal.returns
returns c =
    let ds = c.find_node-at.result.0.0 in
    let offset = c.find_node-at.result.1 + c.args.offset in
    let bytes = c.args.bytes.now in
    let found = c.find_node-at.ensures.found c.args.offset (length bytes) c.requires.some c.requires.few in
    let becomes = becomes_paid (λ p. part_with_bytes p ds offset bytes) (node_paid c.requires.furnished c.args.address c.requires.there c.args.offset (length bytes) c.requires.some c.requires.few ds offset found.held) c.write.ensures.part in
    let are = below_bytes bytes (λ i. omega (arith, c.type_inv.bytes i)) in
    let stored = stored_is c.requires.furnished c.args.address c.requires.there c.args.offset ds offset bytes c.requires.some c.requires.few found.held are becomes in
    record {
      stored = stored;
      there = stored_there c.requires.furnished c.args.address c.requires.there c.args.offset ds offset bytes c.requires.some c.requires.few found.held are becomes;
      user = user_stored (stock_of c.args.self.now c.args.memory.now c.args.map.now) (stock_of c.args.self.now c.write.new.self c.args.map.now) c.args.address c.args.offset bytes c.requires.few c.requires.there stored;
      keeps = stored_keeps c.requires.furnished c.args.address c.requires.there c.args.offset ds offset bytes c.requires.some c.requires.few found.held are becomes;
    }

pub write-requires-clause-range : goal.write-requires-clause-range
write-requires-clause-range c = let found = c.find_node-at.ensures.found c.args.offset (length c.args.bytes.now) c.requires.some c.requires.few in omega (arith, found.there.within)
