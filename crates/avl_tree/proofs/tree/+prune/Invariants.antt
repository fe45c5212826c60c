use Rattle.avl_tree.specs.View.{height_at}
use Rattle.avl_tree.proofs.tree.+prune.Given as goal

abbrev pub decreases-prune : goal.decreases-prune
decreases-prune g l = height_at (g.N.Nodes.view l.nodes.now l.memory.now) l.root
