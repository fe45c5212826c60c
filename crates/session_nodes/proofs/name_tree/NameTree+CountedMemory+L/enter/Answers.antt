-- The tree takes the node.
use Rattle.session_nodes.proofs.IndexLemmas.{named_entered}
use Rattle.session_nodes.proofs.NameCallLemmas.{enters_new, keeps_nodes, lacks_node, loads_more, named_stands}
use Rattle.session_nodes.proofs.name_tree.NameTree+CountedMemory+L.enter.Goals as goal

pub insert-requires : goal.insert-requires
insert-requires g c = let q = c.requires.unnamed in lacks_node _ _ _ _ c.requires.furnished _ _ _ q.0 q.1

pub returns-clause-enters : goal.returns-clause-enters
returns-clause-enters g c blocks can =
    named_entered _ _ _ _ _ _ blocks _ _ can (c.insert.ensures.made can.named.tree (named_stands _ _ _ blocks can.named) (enters_new _ _ _ _ c.requires.furnished _ _ _ blocks can)) (keeps_nodes _ _ c.insert.ensures.keeps.1.tree)

pub returns-clause-keeps : goal.returns-clause-keeps
returns-clause-keeps g c = c.insert.ensures.keeps.1

pub returns-clause-same_reference : goal.returns-clause-same_reference
returns-clause-same_reference g c = c.insert.ensures.keeps.0

pub returns-clause-loads : goal.returns-clause-loads
returns-clause-loads g c blocks can k few =
    loads_more _ _ blocks can.named k _ _ few (c.insert.ensures.loads can.named.tree (named_stands _ _ _ blocks can.named) (enters_new _ _ _ _ c.requires.furnished _ _ _ blocks can))
