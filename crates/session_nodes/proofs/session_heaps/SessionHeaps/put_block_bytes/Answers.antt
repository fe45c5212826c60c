-- The bytes are put over the payload, and nothing else changes.
use Rattle.std.proofs.Common.{◌+◌, ap, is_some, length, arith}
use Rattle.heap_core.proofs.WordsLemmas.{below_bytes}
use Rattle.dataspace_core.specs.Store.{part_with_bytes}
use Rattle.dataspace_core.proofs.PartLaws.{becomes_paid}
use Rattle.session_nodes.proofs.NodeFoundLemmas.{finds_held, node_paid, payload_there}
use Rattle.session_nodes.proofs.NodeStoreLemmas.{range_low}
use Rattle.session_nodes.proofs.NodeStoredLemmas.{stored_is, stored_keeps}
use Rattle.session_nodes.proofs.session_heaps.SessionHeaps.put_block_bytes.Goals as goal

pub payload_at-at-requires-clause-there : goal.payload_at-at-requires-clause-there
payload_at-at-requires-clause-there c = ap is_some (payload_there c.requires.furnished c.args.address c.requires.there c.args.offset (length c.args.bytes.now) c.requires.some (omega arith))

pub returns : goal.returns
returns c =
    let ds = c.payload_at-at.result.0.0 in
    let offset = c.payload_at-at.result.1 + c.args.offset in
    let bytes = c.args.bytes.now in
    let found = finds_held c.requires.furnished c.args.address c.requires.there c.args.offset (length bytes) c.requires.some (omega arith) ds c.payload_at-at.result.1 c.payload_at-at.ensures.held in
    let becomes = becomes_paid (λ p. part_with_bytes p ds offset bytes) (node_paid c.requires.furnished c.args.address c.requires.there c.args.offset (length bytes) c.requires.some (omega arith) ds offset found.held) c.write.ensures.part in
    let are = below_bytes bytes (λ i. omega (arith, c.type_inv.bytes i)) in
    record {
      stored = stored_is c.requires.furnished c.args.address c.requires.there c.args.offset ds offset bytes c.requires.some (omega arith) found.held are becomes;
      keeps = stored_keeps c.requires.furnished c.args.address c.requires.there c.args.offset ds offset bytes c.requires.some (omega arith) found.held are becomes;
    }

pub write-requires-clause-range : goal.write-requires-clause-range
write-requires-clause-range c =
    let found = finds_held c.requires.furnished c.args.address c.requires.there c.args.offset (length c.args.bytes.now) c.requires.some (omega arith) c.payload_at-at.result.0.0 c.payload_at-at.result.1 c.payload_at-at.ensures.held in
    omega (arith, found.there.within)

pub write-requires-clause-exists : goal.write-requires-clause-exists
write-requires-clause-exists c =
    let found = finds_held c.requires.furnished c.args.address c.requires.there c.args.offset (length c.args.bytes.now) c.requires.some (omega arith) c.payload_at-at.result.0.0 c.payload_at-at.result.1 c.payload_at-at.ensures.held in
    found.there.exists

pub overflow_add-at : goal.overflow_add-at
overflow_add-at c =
    let found = finds_held c.requires.furnished c.args.address c.requires.there c.args.offset (length c.args.bytes.now) c.requires.some (omega arith) c.payload_at-at.result.0.0 c.payload_at-at.result.1 c.payload_at-at.ensures.held in
    let low = range_low c.args.self.now.nodes c.args.memory.now c.args.map.now c.requires.furnished.sound _ _ _ (length c.args.bytes.now) found.held in
    omega (arith, low)
