use Rattle.std.proofs.Common.{◌≡◌, refl, sym, ◌∙◌, arith}
use Rattle.avl_tree.specs.Tree.{Node, root_of}
use Rattle.avl_tree.proofs.ViewLemmas.{root_node, nodes_in, limb_some}
use Rattle.avl_tree.proofs.subtree.subtrees_of.Goals as goal

pub subtree_of-right-requires : goal.subtree_of-right-requires
subtree_of-right-requires g c some =
    let q = c.requires in
    let at : root_of q.r ≡ c.links-links.result.right = λ i. (sym (c.links-links.ensures.links ∙ q.holds.0.links) i).right in
    let keep = g.met.N.Nodes.keeps_node in
    keep _ _ _ _ c.subtree_of-left.ensures.keeps (keep _ _ _ _ c.links-links.ensures.keeps
    (root_node _ q.r _ (nodes_in _ q.r (Node q.l c.args.node q.s q.h q.r) (λ a. omega arith) q.nodes) at some))

pub returns-clause-right_node : goal.returns-clause-right_node
returns-clause-right_node g c some =
    let q = c.requires in
    let at : root_of q.r ≡ c.links-links.result.right = λ i. (sym (c.links-links.ensures.links ∙ q.holds.0.links) i).right in
    let is = c.subtree_of-right.ensures.is q.r (rw (c.subtree_of-left.ensures.view, c.links-links.ensures.view) q.holds.2) at in
    root_node _ q.r _ (nodes_in _ q.r (Node q.l c.args.node q.s q.h q.r) (λ a. omega arith) q.nodes) is.root (limb_some _ q.r _ q.holds.2 is some)

pub subtree_of-left-requires : goal.subtree_of-left-requires
subtree_of-left-requires g c some =
    let q = c.requires in
    let at : root_of q.l ≡ c.links-links.result.left = λ i. (sym (c.links-links.ensures.links ∙ q.holds.0.links) i).left in
    g.met.N.Nodes.keeps_node _ _ _ _ c.links-links.ensures.keeps (root_node _ q.l _ (nodes_in _ q.l (Node q.l c.args.node q.s q.h q.r) (λ a. omega arith) q.nodes) at some)

pub returns-clause-left_node : goal.returns-clause-left_node
returns-clause-left_node g c some =
    let q = c.requires in
    let at : root_of q.l ≡ c.links-links.result.left = λ i. (sym (c.links-links.ensures.links ∙ q.holds.0.links) i).left in
    let is = c.subtree_of-left.ensures.is q.l (rw c.links-links.ensures.view q.holds.1) at in
    root_node _ q.l _ (nodes_in _ q.l (Node q.l c.args.node q.s q.h q.r) (λ a. omega arith) q.nodes) is.root (limb_some _ q.l _ q.holds.1 is some)

pub returns-clause-keeps : goal.returns-clause-keeps
returns-clause-keeps g c =
    let then = g.met.N.Nodes.keeps_then in
    then _ _ _ _ c.links-links.ensures.keeps (then _ _ _ _ c.subtree_of-left.ensures.keeps c.subtree_of-right.ensures.keeps)

pub links-links-requires : goal.links-links-requires
links-links-requires g c = let q = c.requires in root_node _ (Node q.l c.args.node q.s q.h q.r) _ q.nodes refl (λ none. omega (arith, q.holds.0.some, none))
