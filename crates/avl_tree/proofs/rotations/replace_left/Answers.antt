use Rattle.std.proofs.Common.{◌≡◌, sym, ◌∙◌, arith}
use Rattle.avl_tree.specs.Tree.{Node, root_of}
use Rattle.avl_tree.proofs.ViewLemmas.{root_node, nodes_in}
use Rattle.avl_tree.proofs.NewLemmas.{left-slope, left-formed}
use Rattle.avl_tree.proofs.rotations.replace_left.Goals as goal

-- the node's right tree
pub subtree_of-right-requires : goal.subtree_of-right-requires
subtree_of-right-requires g c some =
    let q = c.requires in
    let at : root_of q.4 ≡ c.links-links.result.right = λ i. (sym (c.links-links.ensures.links ∙ q.5.here.links) i).right in
    g.met.N.Nodes.keeps_node _ _ _ _ c.links-links.ensures.keeps
    (root_node _ q.4 _ (nodes_in _ q.4 (Node q.1 c.args.node q.2 q.3 q.4) (λ a. omega arith) q.6) at some)

pub balance-tree-requires : goal.balance-tree-requires
balance-tree-requires g c =
    let q = c.requires in
    let at : root_of q.4 ≡ c.links-links.result.right = λ i. (sym (c.links-links.ensures.links ∙ q.5.here.links) i).right in
    let right = c.subtree_of-right.ensures.is q.4 (rw c.links-links.ensures.view q.5.right) at in
    let slope = left-slope _ _ q.0 q.1 c.args.node q.2 q.3 q.4 c.args.left _ q.5 right in
    let keep = g.met.N.Nodes.keeps_node in
    rw (c.subtree_of-right.ensures.view, c.links-links.ensures.view)
    (q.1, q.2, q.4, slope, λ a there. keep _ _ _ a c.subtree_of-right.ensures.keeps (keep _ _ _ a c.links-links.ensures.keeps (q.6 a there)))

pub returns-clause-made : goal.returns-clause-made
returns-clause-made g c l l' s h r new =
    let at : root_of r ≡ c.links-links.result.right = λ i. (sym (c.links-links.ensures.links ∙ new.here.links) i).right in
    let right = c.subtree_of-right.ensures.is r (rw c.links-links.ensures.view new.right) at in
    let kept = c.subtree_of-right.ensures.view ∙ c.links-links.ensures.view in
    let made = c.balance-tree.ensures.made l' s r (rw kept (left-slope _ _ l l' c.args.node s h r c.args.left _ new right)) in
    left-formed _ _ l l' c.args.node s h r _ c.args.left c.balance-tree.result _ _ new (λ i. (sym c.links-links.ensures.links i).high) (rw (sym kept) made) c.unless_same.ensures

pub returns-clause-keeps : goal.returns-clause-keeps
returns-clause-keeps g c =
    let then = g.met.N.Nodes.keeps_then in
    then _ _ _ _ c.links-links.ensures.keeps (then _ _ _ _ c.subtree_of-right.ensures.keeps c.balance-tree.ensures.keeps)
