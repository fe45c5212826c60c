-- The height stands behind the links.
use Rattle.std.proofs.Common.{◌∙◌, arith, ap}
use Rattle.session_nodes.proofs.NameReadLemmas.{names_after, word_read}
use Rattle.session_nodes.specs.Index.{names_in}
use Rattle.session_nodes.specs.SessionHeaps.{stock_of}
use Rattle.session_nodes.proofs.name_tree.NameTreeCountedMemoryNodes.high.Goals as goal

pub load-requires-clause-range : goal.load-requires-clause-range
load-requires-clause-range g c = let found = c.find_node-at.ensures.found 80 8 (omega arith) (omega arith) in omega (arith, found.there.within)

pub returns-clause-high : goal.returns-clause-high
returns-clause-high g c = c.load.ensures.value ∙ word_read c.requires _ c.find_node-at.result.1 c.find_node-at.ensures.found 80 (omega arith)

pub load-requires-clause-exists : goal.load-requires-clause-exists
load-requires-clause-exists g c = (c.find_node-at.ensures.found 80 8 (omega arith) (omega arith)).there.exists

pub returns-clause-view : goal.returns-clause-view
returns-clause-view g c = ap (λ m. names_in m (stock_of c.args.self.now.heaps.now m c.args.self.now.map.now).nodes) (c.load.ensures.memory)

pub returns-clause-keeps : goal.returns-clause-keeps
returns-clause-keeps g c = (c.load.ensures.same_reference, names_after c.args.self.now.heaps.now.nodes c.args.self.now.heaps.now.contents c.args.self.now.map.now c.load.ensures.memory)
