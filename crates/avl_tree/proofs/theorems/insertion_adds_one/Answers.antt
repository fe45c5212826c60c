use Rattle.avl_tree.proofs.TreeLemmas.{tally-inserted}
use Rattle.avl_tree.proofs.theorems.insertion_adds_one.Goals as goal

pub returns : goal.returns
returns c weight a s t = tally-inserted weight a s t
