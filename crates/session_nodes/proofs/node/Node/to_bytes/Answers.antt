-- The bytes are put one after another.
use Rattle.std.proofs.Common.{◌-◌, length}
use Rattle.trade_base.specs.Word.{word_bytes}
use Rattle.own_model.specs.OwnState.{zeros}
use Rattle.session_nodes.specs.Node.{bytes_of}
use Rattle.session_nodes.proofs.NodeLemmas.{joined}
use Rattle.session_nodes.proofs.node.Node.to_bytes.Goals as goal

pub returns-clause-bytes : goal.returns-clause-bytes
unfolding bytes_of
returns-clause-bytes c =
    rw (c.append_zeros.ensures.items, c.append.ensures.items, c.append_word-4.ensures.items, c.append_word-3.ensures.items, c.append_word-2.ensures.items, c.append_word.ensures.items, c.new-bytes.ensures, c.len.ensures.value, c.len-2.ensures.value, c.deref.ensures.0) (joined (word_bytes c.args.self.now.next) (word_bytes c.args.self.now.content) (word_bytes c.args.self.now.size) (word_bytes (length c.args.self.now.name.items)) c.args.self.now.name.items (zeros (32 - length c.args.self.now.name.items)))
