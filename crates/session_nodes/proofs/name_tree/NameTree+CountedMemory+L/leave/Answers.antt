-- The tree gives the node up.
use Rattle.session_nodes.proofs.IndexLemmas.{named_left}
use Rattle.session_nodes.proofs.NameCallLemmas.{has_tree, keeps_nodes, loads_more, named_stands}
use Rattle.session_nodes.proofs.name_tree.NameTree+CountedMemory+L.leave.Goals as goal

pub remove-requires : goal.remove-requires
remove-requires g c = let q = c.requires.named in has_tree _ _ _ _ c.requires.furnished _ q.0 q.1

pub returns-clause-gone : goal.returns-clause-gone
returns-clause-gone g c before behind block n once ranked =
    named_left _ block _ _ _ _ before behind _ _ n once ranked (c.remove.ensures.made n.tree (named_stands _ _ _ _ n)) (keeps_nodes _ _ c.remove.ensures.keeps.1.tree)

pub returns-clause-keeps : goal.returns-clause-keeps
returns-clause-keeps g c = c.remove.ensures.keeps.1

pub returns-clause-same_reference : goal.returns-clause-same_reference
returns-clause-same_reference g c = c.remove.ensures.keeps.0

pub returns-clause-loads : goal.returns-clause-loads
returns-clause-loads g c blocks n k few = loads_more _ _ blocks n k _ _ few (c.remove.ensures.loads n.tree (named_stands _ _ _ blocks n))
