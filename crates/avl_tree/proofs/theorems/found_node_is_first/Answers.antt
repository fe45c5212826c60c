use Rattle.avl_tree.proofs.OrderLemmas.{found-first}
use Rattle.avl_tree.proofs.theorems.found_node_is_first.Goals as goal

pub returns : goal.returns
returns c s up t o some = found-first s 0 t up o some
