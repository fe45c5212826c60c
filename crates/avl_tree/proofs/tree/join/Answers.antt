use Rattle.std.proofs.Common.{refl, sym, ◌∙◌, subst, arith}
use Rattle.avl_tree.specs.Tree.{Node}
use Rattle.avl_tree.specs.View.{AreNodes}
use Rattle.avl_tree.proofs.ViewLemmas.{root_node, nodes_in}
use Rattle.avl_tree.proofs.PartLemmas.{Parts, join_left, join_right, join-left_none, join-right_none, join_rest_asks, join_rest_made}
use Rattle.avl_tree.proofs.tree.join.Goals as goal

-- one of them has no node
pub returns-then-links-eq0-clause-made : goal.returns-then-links-eq0-clause-made
returns-then-links-eq0-clause-made g c l s h r stands =
    rw (c.subtree_of.ensures.view, c.links-links.ensures.view)
    (join-left_none _ _ l c.args.node s h r c.links-links.result stands c.links-links.ensures.links _ c.if-links-eq0.true
    (c.subtree_of.ensures.is r (rw c.links-links.ensures.view stands.holds.2) (join_right _ _ l c.args.node s h r c.links-links.result stands c.links-links.ensures.links)))

pub returns-then-links-eq0-2-clause-made : goal.returns-then-links-eq0-2-clause-made
returns-then-links-eq0-2-clause-made g c l s h r stands =
    rw (c.subtree_of-then-links-eq0-2.ensures.view, c.links-links.ensures.view)
    (join-right_none _ _ l c.args.node s h r c.links-links.result stands c.links-links.ensures.links _ c.if-links-eq0.false c.if-links-eq0-2.true
    (c.subtree_of-then-links-eq0-2.ensures.is l (rw c.links-links.ensures.view stands.holds.1) (join_left _ _ l c.args.node s h r c.links-links.result stands c.links-links.ensures.links)))

-- the right one's first node comes between them
pub subtree_now-right-requires : goal.subtree_now-right-requires
subtree_now-right-requires g c some =
    let q = c.requires in
    let keep = g.met.N.Nodes.keeps_node in
    keep _ _ _ _ c.subtree_of-left.ensures.keeps (keep _ _ _ _ c.part_first-parted.ensures.keeps (keep _ _ _ _ c.links-links.ensures.keeps
    (root_node _ q.3 _ (nodes_in _ q.3 (Node q.0 c.args.node q.1 q.2 q.3) (λ a. omega arith) q.5)
    (join_right _ _ q.0 c.args.node q.1 q.2 q.3 c.links-links.result q.4 c.links-links.ensures.links) some)))

pub balance-requires : goal.balance-requires
balance-requires g c =
    let q = c.requires in
    let parts = subst (λ w. Parts g.N.Nodes.plan w (g.N.Nodes.view c.args.nodes.now c.part_first-parted.new.memory) c.links-links.result.right c.part_first-parted.result.rest) c.links-links.ensures.view c.part_first-parted.ensures.made in
    let keep = g.met.N.Nodes.keeps_node in
    let nodes : AreNodes (g.N.Nodes.IsNode c.args.nodes.now c.subtree_now-right.new.memory) (Node q.0 c.args.node q.1 q.2 q.3) = λ a there.
    keep _ _ _ a c.subtree_now-right.ensures.keeps (keep _ _ _ a c.subtree_of-left.ensures.keeps (keep _ _ _ a c.part_first-parted.ensures.keeps (keep _ _ _ a c.links-links.ensures.keeps (q.5 a there)))) in
    rw (c.subtree_now-right.ensures.view, c.subtree_of-left.ensures.view)
    (join_rest_asks _ _ c.args.node c.links-links.result c.links-links.ensures.links c.if-links-eq0-2.false _ (g.N.Nodes.view c.args.nodes.now c.part_first-parted.new.memory) _ _ _ _
    (λ t stands. c.part_first-parted.ensures.first t (rw c.links-links.ensures.view stands)) parts c.subtree_of-left.ensures.is
    (λ old new told held at. c.subtree_now-right.ensures.is old new told (rw c.subtree_of-left.ensures.view held) at) q.0 q.1 q.2 q.3 q.4 nodes)

pub returns-clause-made : goal.returns-clause-made
returns-clause-made g c =
    let kept = c.subtree_now-right.ensures.view ∙ c.subtree_of-left.ensures.view in
    let parts = subst (λ w. Parts g.N.Nodes.plan w (g.N.Nodes.view c.args.nodes.now c.part_first-parted.new.memory) c.links-links.result.right c.part_first-parted.result.rest) c.links-links.ensures.view c.part_first-parted.ensures.made in
    join_rest_made _ _ c.args.node c.links-links.result c.links-links.ensures.links c.if-links-eq0-2.false (g.N.Nodes.view c.args.nodes.now c.part_first-parted.new.memory) _ _ _ _ _ _ c.if-links-eq0.false
    (λ t stands. c.part_first-parted.ensures.first t (rw c.links-links.ensures.view stands)) parts c.subtree_of-left.ensures.is
    (λ old new told held at. c.subtree_now-right.ensures.is old new told (rw c.subtree_of-left.ensures.view held) at)
    (λ x y z slope. rw (sym kept) (c.balance.ensures.made x y z (rw kept slope)))

-- what is kept
pub returns-clause-keeps : goal.returns-clause-keeps
returns-clause-keeps g c =
    let then = g.met.N.Nodes.keeps_then in
    then _ _ _ _ c.links-links.ensures.keeps (then _ _ _ _ c.part_first-parted.ensures.keeps (then _ _ _ _ c.subtree_of-left.ensures.keeps (then _ _ _ _ c.subtree_now-right.ensures.keeps c.balance.ensures.keeps)))

pub returns-then-links-eq0-clause-keeps : goal.returns-then-links-eq0-clause-keeps
returns-then-links-eq0-clause-keeps g c =
    let then = g.met.N.Nodes.keeps_then in
    then _ _ _ _ c.links-links.ensures.keeps c.subtree_of.ensures.keeps

pub returns-then-links-eq0-2-clause-keeps : goal.returns-then-links-eq0-2-clause-keeps
returns-then-links-eq0-2-clause-keeps g c =
    let then = g.met.N.Nodes.keeps_then in
    then _ _ _ _ c.links-links.ensures.keeps c.subtree_of-then-links-eq0-2.ensures.keeps

pub links-links-requires : goal.links-links-requires
links-links-requires g c = let q = c.requires in root_node _ (Node q.0 c.args.node q.1 q.2 q.3) _ q.5 refl (λ none. omega (arith, q.4.holds.0.some, none))

pub subtree_of-requires : goal.subtree_of-requires
subtree_of-requires g c some =
    let q = c.requires in
    g.met.N.Nodes.keeps_node _ _ _ _ c.links-links.ensures.keeps
    (root_node _ q.3 _ (nodes_in _ q.3 (Node q.0 c.args.node q.1 q.2 q.3) (λ a. omega arith) q.5)
    (join_right _ _ q.0 c.args.node q.1 q.2 q.3 c.links-links.result q.4 c.links-links.ensures.links) some)

pub subtree_of-requires-then-links-eq0-2 : goal.subtree_of-requires-then-links-eq0-2
subtree_of-requires-then-links-eq0-2 g c some =
    let q = c.requires in
    g.met.N.Nodes.keeps_node _ _ _ _ c.links-links.ensures.keeps
    (root_node _ q.0 _ (nodes_in _ q.0 (Node q.0 c.args.node q.1 q.2 q.3) (λ a. omega arith) q.5)
    (join_left _ _ q.0 c.args.node q.1 q.2 q.3 c.links-links.result q.4 c.links-links.ensures.links) some)

pub subtree_of-left-requires : goal.subtree_of-left-requires
subtree_of-left-requires g c some =
    let q = c.requires in
    let keep = g.met.N.Nodes.keeps_node in
    keep _ _ _ _ c.part_first-parted.ensures.keeps (keep _ _ _ _ c.links-links.ensures.keeps
    (root_node _ q.0 _ (nodes_in _ q.0 (Node q.0 c.args.node q.1 q.2 q.3) (λ a. omega arith) q.5)
    (join_left _ _ q.0 c.args.node q.1 q.2 q.3 c.links-links.result q.4 c.links-links.ensures.links) some))
