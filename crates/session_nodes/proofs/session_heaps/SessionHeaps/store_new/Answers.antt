-- What is put there is the new node's block.
use Rattle.std.proofs.Common.{◌≡◌, ◌++◌, ap, ◌∙◌}
use Rattle.trade_base.specs.Word.{word_bytes}
use Rattle.own_model.specs.OwnState.{zeros}
use Rattle.session_nodes.specs.Calls.{node_stored}
use Rattle.session_nodes.specs.SoundHeaps.{Stock}
use Rattle.session_nodes.specs.SessionHeaps.{stock_of}
use Rattle.session_nodes.specs.Node.{value_of, bytes_of}
use Rattle.session_nodes.proofs.NodeKeptLemmas.{new_node, new_padded, new_previous}
use Rattle.session_nodes.proofs.session_heaps.SessionHeaps.store_new.Goals as goal

stored : (c : goal.After-put_bytes) → stock_of c.args.self.now c.put_bytes.new.memory c.args.map.now
    ≡ node_stored c.args.address 0 (bytes_of (value_of c.args.node.now) ++ (zeros 24 ++ word_bytes c.args.previous)) (stock_of c.args.self.now c.args.memory.now c.args.map.now)
stored c =
    c.put_bytes.ensures.stored
    ∙ ap (λ b. node_stored c.args.address 0 b (stock_of c.args.self.now c.args.memory.now c.args.map.now)) (c.deref.ensures.0 ∙ c.to_block.ensures.bytes)

pub returns-clause-stored : goal.returns-clause-stored
returns-clause-stored c = stored c

pub returns-clause-back : goal.returns-clause-back
returns-clause-back c = new_node (stock_of c.args.self.now c.args.memory.now c.args.map.now).nodes (stock_of c.args.self.now c.put_bytes.new.memory c.args.map.now).nodes c.args.address (value_of c.args.node.now) c.args.previous c.ranges.previous.fits c.requires.there c.to_block.ensures.node (ap (λ (s : Stock). s.nodes.payloads) (stored c))

pub returns-clause-padded : goal.returns-clause-padded
returns-clause-padded c = new_padded (stock_of c.args.self.now c.args.memory.now c.args.map.now).nodes (stock_of c.args.self.now c.put_bytes.new.memory c.args.map.now).nodes c.args.address (value_of c.args.node.now) c.args.previous c.ranges.previous.fits c.requires.there c.to_block.ensures.node (ap (λ (s : Stock). s.nodes.payloads) (stored c))

pub returns-clause-previous : goal.returns-clause-previous
returns-clause-previous c = new_previous (stock_of c.args.self.now c.args.memory.now c.args.map.now).nodes (stock_of c.args.self.now c.put_bytes.new.memory c.args.map.now).nodes c.args.address (value_of c.args.node.now) c.args.previous c.ranges.previous.fits c.requires.there c.to_block.ensures.node (ap (λ (s : Stock). s.nodes.payloads) (stored c))
