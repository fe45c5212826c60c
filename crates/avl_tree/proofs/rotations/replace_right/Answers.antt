use Rattle.std.proofs.Common.{◌≡◌, sym, ◌∙◌, arith}
use Rattle.avl_tree.specs.Tree.{Node, root_of}
use Rattle.avl_tree.proofs.ViewLemmas.{root_node, nodes_in}
use Rattle.avl_tree.proofs.NewLemmas.{right-slope, right-formed}
use Rattle.avl_tree.proofs.rotations.replace_right.Goals as goal

-- the node's left tree
pub subtree_of-left-requires : goal.subtree_of-left-requires
subtree_of-left-requires g c some =
    let q = c.requires in
    let at : root_of q.0 ≡ c.links-links.result.left = λ i. (sym (c.links-links.ensures.links ∙ q.5.here.links) i).left in
    g.met.N.Nodes.keeps_node _ _ _ _ c.links-links.ensures.keeps
    (root_node _ q.0 _ (nodes_in _ q.0 (Node q.0 c.args.node q.1 q.2 q.4) (λ a. omega arith) q.6) at some)

pub balance-tree-requires : goal.balance-tree-requires
balance-tree-requires g c =
    let q = c.requires in
    let at : root_of q.0 ≡ c.links-links.result.left = λ i. (sym (c.links-links.ensures.links ∙ q.5.here.links) i).left in
    let left = c.subtree_of-left.ensures.is q.0 (rw c.links-links.ensures.view q.5.left) at in
    let slope = right-slope _ _ q.0 c.args.node q.1 q.2 q.3 q.4 _ c.args.right q.5 left in
    let keep = g.met.N.Nodes.keeps_node in
    rw (c.subtree_of-left.ensures.view, c.links-links.ensures.view)
    (q.0, q.1, q.4, slope, λ a there. keep _ _ _ a c.subtree_of-left.ensures.keeps (keep _ _ _ a c.links-links.ensures.keeps (q.6 a there)))

pub returns-clause-made : goal.returns-clause-made
returns-clause-made g c l s h r r' new =
    let at : root_of l ≡ c.links-links.result.left = λ i. (sym (c.links-links.ensures.links ∙ new.here.links) i).left in
    let left = c.subtree_of-left.ensures.is l (rw c.links-links.ensures.view new.left) at in
    let kept = c.subtree_of-left.ensures.view ∙ c.links-links.ensures.view in
    let made = c.balance-tree.ensures.made l s r' (rw kept (right-slope _ _ l c.args.node s h r r' _ c.args.right new left)) in
    right-formed _ _ l c.args.node s h r r' _ c.args.right c.balance-tree.result _ _ new (λ i. (sym c.links-links.ensures.links i).high) (rw (sym kept) made) c.unless_same.ensures

pub returns-clause-keeps : goal.returns-clause-keeps
returns-clause-keeps g c =
    let then = g.met.N.Nodes.keeps_then in
    then _ _ _ _ c.links-links.ensures.keeps (then _ _ _ _ c.subtree_of-left.ensures.keeps c.balance-tree.ensures.keeps)
