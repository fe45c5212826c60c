use Rattle.avl_tree.proofs.OrderLemmas.{inserted-ordered, removed-ordered}
use Rattle.avl_tree.proofs.theorems.order_is_kept.Goals as goal

pub returns-clause-inserted : goal.returns-clause-inserted
returns-clause-inserted c low a s up t from to new o = inserted-ordered low a s t up from to new o

pub returns-clause-removed : goal.returns-clause-removed
returns-clause-removed c low s up t o = removed-ordered low s t up o
