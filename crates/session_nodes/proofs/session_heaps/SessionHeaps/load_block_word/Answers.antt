-- The word stands in the payload.
use Rattle.std.proofs.Common.{◌+◌, ◌∙◌, ap, is_some, arith}
use Rattle.trade_base.specs.Word.{word_of}
use Rattle.session_nodes.proofs.NodeFoundLemmas.{finds_held, node_read, payload_there}
use Rattle.session_nodes.proofs.NodeStoreLemmas.{range_low}
use Rattle.session_nodes.proofs.session_heaps.SessionHeaps.load_block_word.Goals as goal

pub payload_at-at-requires-clause-there : goal.payload_at-at-requires-clause-there
payload_at-at-requires-clause-there c = ap is_some (payload_there c.requires.furnished c.args.address c.requires.there c.args.offset 8 (omega arith) (omega arith))

pub returns : goal.returns
returns c =
    let found = finds_held c.requires.furnished c.args.address c.requires.there c.args.offset 8 (omega arith) (omega arith) c.payload_at-at.result.0.0 c.payload_at-at.result.1 c.payload_at-at.ensures.held in
    c.load_word.ensures
    ∙ ap word_of (node_read c.requires.furnished c.args.address c.requires.there c.args.offset 8 (omega arith) (omega arith) c.payload_at-at.result.0.0 (c.payload_at-at.result.1 + c.args.offset) found.held)

pub load_word-requires-clause-range : goal.load_word-requires-clause-range
load_word-requires-clause-range c =
    let found = finds_held c.requires.furnished c.args.address c.requires.there c.args.offset 8 (omega arith) (omega arith) c.payload_at-at.result.0.0 c.payload_at-at.result.1 c.payload_at-at.ensures.held in
    omega (arith, found.there.within)

pub load_word-requires-clause-exists : goal.load_word-requires-clause-exists
load_word-requires-clause-exists c =
    let found = finds_held c.requires.furnished c.args.address c.requires.there c.args.offset 8 (omega arith) (omega arith) c.payload_at-at.result.0.0 c.payload_at-at.result.1 c.payload_at-at.ensures.held in
    found.there.exists

pub overflow_add-at : goal.overflow_add-at
overflow_add-at c =
    let found = finds_held c.requires.furnished c.args.address c.requires.there c.args.offset 8 (omega arith) (omega arith) c.payload_at-at.result.0.0 c.payload_at-at.result.1 c.payload_at-at.ensures.held in
    let low = range_low c.args.self.now.nodes c.args.memory.now c.args.map.now c.requires.furnished.sound _ _ _ 8 found.held in
    omega (arith, low)
