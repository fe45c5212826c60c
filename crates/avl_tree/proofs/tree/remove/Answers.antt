use Rattle.avl_tree.proofs.TreeLemmas.{removed-shrinks}
use Rattle.avl_tree.proofs.StepLemmas.{becomes_told}
use Rattle.avl_tree.proofs.tree.remove.Goals as goal

pub returns-clause-made : goal.returns-clause-made
returns-clause-made g c t stands =
    becomes_told _ _ _ t _ c.args.root _ _ stands (removed-shrinks _ t stands.balanced).balanced (c.prune.ensures.made t stands) c.root_now.ensures
