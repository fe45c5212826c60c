use Rattle.avl_tree.specs.View.{height_at}
use Rattle.avl_tree.proofs.tree.+grow.Given as goal

abbrev pub decreases-grow : goal.decreases-grow
decreases-grow g l = height_at (g.N.Nodes.view l.nodes.now l.memory.now) l.root
