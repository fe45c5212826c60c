use Rattle.std.proofs.Common.{◌≡◌}
use Rattle.avl_tree.specs.View.{height_at}
use Rattle.avl_tree.proofs.StepLemmas.{Finding}
use Rattle.avl_tree.proofs.tree.find.Given as goal

abbrev pub invariant-loop-node : goal.invariant-loop-node
invariant-loop-node g l =
    (g.N.Nodes.view l.fn.nodes l.memory ≡ g.N.Nodes.view l.fn.nodes l.initial.memory)
    × g.N.Nodes.Keeps l.fn.nodes l.initial.memory l.memory
    × Finding g.N.Nodes.plan (g.N.Nodes.view l.fn.nodes l.initial.memory) (g.N.Nodes.rank l.fn.key) l.fn.root l.node l.best g.N.Nodes.cost (g.N.Nodes.loads l.memory) (g.N.Nodes.loads l.initial.memory)

abbrev pub decreases-loop-node : goal.decreases-loop-node
decreases-loop-node g l = height_at (g.N.Nodes.view l.fn.nodes l.memory) l.node
