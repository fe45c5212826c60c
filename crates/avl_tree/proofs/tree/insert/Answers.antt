use Rattle.avl_tree.proofs.TreeLemmas.{inserted-grows}
use Rattle.avl_tree.proofs.StepLemmas.{becomes_told}
use Rattle.avl_tree.proofs.tree.insert.Goals as goal

pub returns-clause-made : goal.returns-clause-made
returns-clause-made g c t stands new =
    becomes_told _ _ _ t _ c.args.root _ _ stands (inserted-grows c.args.node _ t stands.balanced).balanced (c.grow.ensures.made t stands new) c.root_now.ensures
