use Rattle.avl_tree.specs.View.{height_at}
use Rattle.avl_tree.proofs.tree.+part_first.Given as goal

abbrev pub decreases-part_first : goal.decreases-part_first
decreases-part_first g l = height_at (g.N.Nodes.view l.nodes.now l.memory.now) l.root
