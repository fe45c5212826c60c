use Rattle.avl_tree.proofs.TreeLemmas.{high_bound}
use Rattle.avl_tree.proofs.theorems.trees_are_low.Goals as goal

pub returns : goal.returns
returns c t even n few = high_bound t even n few
