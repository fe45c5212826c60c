-- The word stands in the payload.
use Rattle.std.proofs.Common.{◌∙◌, ap, arith}
use Rattle.trade_base.specs.Word.{word_of}
use Rattle.session_nodes.proofs.NodeFoundLemmas.{node_read}
use Rattle.session_nodes.proofs.session_heaps.SessionHeaps.load_word.Goals as goal

pub returns : goal.returns
returns c =
    let found = c.find_node-at.ensures.found c.args.offset 8 (omega arith) c.requires.within in
    c.load_word.ensures
    ∙ ap word_of (node_read c.requires.furnished c.args.address c.requires.there c.args.offset 8 (omega arith) c.requires.within c.find_node-at.result.0.0 _ found.held)

pub load_word-requires-clause-range : goal.load_word-requires-clause-range
load_word-requires-clause-range c = let found = c.find_node-at.ensures.found c.args.offset 8 (omega arith) c.requires.within in omega (arith, found.there.within)
