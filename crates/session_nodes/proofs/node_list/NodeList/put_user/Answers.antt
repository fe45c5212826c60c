-- The bytes are put after those of the node.
use Rattle.session_nodes.specs.SessionHeaps.{stock_of}
use Rattle.session_nodes.proofs.UserLemmas.{puts_user}
use Rattle.session_nodes.proofs.node_list.NodeList.put_user.Goals as goal

pub returns-clause-put : goal.returns-clause-put
returns-clause-put c =
    puts_user (stock_of c.args.self.now.heaps c.args.memory.now c.args.map.now) (stock_of c.args.self.now.heaps c.put_block_bytes.new.memory c.args.map.now) c.args.address c.args.offset c.args.bytes.now
    c.requires.after c.requires.room c.put_block_bytes.ensures.stored c.args.self.now c.requires.listed c.requires.nodes
