use Rattle.avl_tree.proofs.OrderLemmas.{tally-removed}
use Rattle.avl_tree.proofs.theorems.removal_takes_one.Goals as goal

pub returns : goal.returns
returns c weight a s up t o there = tally-removed weight 0 a s t up o there
