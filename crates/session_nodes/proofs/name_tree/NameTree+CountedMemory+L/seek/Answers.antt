-- The tree leads to the node.
use Rattle.std.proofs.Common.{ap}
use Rattle.avl_tree.specs.View.{View}
use Rattle.dataspace_core.specs.Store.{Store}
use Rattle.session_nodes.proofs.NameCallLemmas.{has_tree, loads_low, named_stands, seeks_found}
use Rattle.session_nodes.proofs.name_tree.NameTree+CountedMemory+L.seek.Goals as goal

pub find-requires : goal.find-requires
find-requires g c = let q = c.requires.named in has_tree _ _ _ _ c.requires.furnished _ q.0 q.1

pub returns-clause-found : goal.returns-clause-found
returns-clause-found g c = seeks_found _ _ _ _ (λ blocks n. c.find.ensures.found n.tree (named_stands _ _ _ blocks n))

pub returns-clause-memory : goal.returns-clause-memory
returns-clause-memory g c = ap (λ (w : View Store). w.rest 0) c.find.ensures.view

pub returns-clause-same_reference : goal.returns-clause-same_reference
returns-clause-same_reference g c = c.find.ensures.keeps.0

pub returns-clause-loads : goal.returns-clause-loads
returns-clause-loads g c blocks n k few = loads_low _ _ blocks n k _ _ few (c.find.ensures.loads n.tree (named_stands _ _ _ blocks n))
