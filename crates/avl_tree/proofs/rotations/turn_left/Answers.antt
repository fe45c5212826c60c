use Rattle.std.proofs.Common.{◌≡◌, ◌∙◌, refl, subst, arith}
use Rattle.avl_tree.specs.Tree.{Node}
use Rattle.avl_tree.specs.View.{AreNodes}
use Rattle.avl_tree.proofs.ViewLemmas.{root_node, nodes_in, limb_some}
use Rattle.avl_tree.proofs.TurnLemmas.{TellsArms, reads, reads_inner, turn_left-single, turn_left-double}
use Rattle.avl_tree.proofs.rotations.turn_left.Goals as goal

-- the higher tree's root is read
pub subtrees_of-under-requires : goal.subtrees_of-under-requires
subtrees_of-under-requires g c =
    let q = c.requires in
    let slope = q.3 in
    reads _ _ q.2 c.args.right.root slope.plot.right (nodes_in _ q.2 (Node q.0 c.args.node q.1 0 q.2) (λ a. omega arith) q.5) slope.right_balanced slope.right.root (omega (arith, q.4)) (omega (arith, slope.low, slope.right_near))

-- and that of its inner tree
pub subtrees_of-inner-requires : goal.subtrees_of-inner-requires
subtrees_of-inner-requires g c =
    let q = c.requires in
    let slope = q.3 in
    let nodes : AreNodes (g.N.Nodes.IsNode c.args.nodes.now c.subtrees_of-under.new.memory) (Node q.0 c.args.node q.1 0 q.2) = λ a there. g.met.N.Nodes.keeps_node _ _ _ a c.subtrees_of-under.ensures.keeps (q.5 a there) in
    let under = reads _ _ q.2 c.args.right.root slope.plot.right (nodes_in _ q.2 (Node q.0 c.args.node q.1 0 q.2) (λ a. omega arith) nodes) slope.right_balanced slope.right.root (omega (arith, q.4)) (omega (arith, slope.low, slope.right_near)) in
    rw c.subtrees_of-under.ensures.view
    ((reads_inner _ _ c.args.right.root c.subtrees_of-under.result under c.subtrees_of-under.ensures.arms).0 (omega (arith, c.if-under.false)))

pub returns-then-under-clause-made : goal.returns-then-under-clause-made
returns-then-under-clause-made g c l s r slope far =
    turn_left-single _ _ _ _ _ l c.args.node s r c.args.left c.args.right _ _ c.subtrees_of-under.result c.subtrees_of-under.ensures.view slope far c.subtrees_of-under.ensures.arms c.if-under.true
    c.fork-low.ensures.limb c.fork-low.ensures.links c.fork.ensures.limb c.fork.ensures.links

pub returns-else-under-clause-made : goal.returns-else-under-clause-made
returns-else-under-clause-made g c l s r slope far =
    turn_left-double _ _ _ _ _ _ l c.args.node s r c.args.left c.args.right _ _ _ c.subtrees_of-under.result c.subtrees_of-inner.result (c.subtrees_of-inner.ensures.view ∙ c.subtrees_of-under.ensures.view) slope far c.subtrees_of-under.ensures.arms
    (subst (λ w. TellsArms w c.subtrees_of-under.result.left.root c.subtrees_of-inner.result) c.subtrees_of-under.ensures.view c.subtrees_of-inner.ensures.arms) (omega (arith, c.if-under.false))
    c.fork-low-else-under.ensures.limb c.fork-low-else-under.ensures.links c.fork-other.ensures.limb c.fork-other.ensures.links c.fork-else-under.ensures.limb c.fork-else-under.ensures.links

-- the two are made
pub fork-low-requires-clause-node : goal.fork-low-requires-clause-node
fork-low-requires-clause-node g c =
    let q = c.requires in
    g.met.N.Nodes.keeps_node _ _ _ _ c.subtrees_of-under.ensures.keeps
    (root_node _ (Node q.0 c.args.node q.1 0 q.2) _ q.5 refl (λ none. absurd (omega (arith, none, c.requires.3.plot.some))))

pub fork-low-requires-clause-left_low : goal.fork-low-requires-clause-left_low
fork-low-requires-clause-left_low g c = omega (arith, c.requires.3.left.high, c.requires.3.low)

pub fork-low-requires-clause-right_low : goal.fork-low-requires-clause-right_low
fork-low-requires-clause-right_low g c = omega (arith, c.subtrees_of-under.ensures.left_low)

pub fork-requires-clause-node : goal.fork-requires-clause-node
fork-requires-clause-node g c =
    let q = c.requires in
    let slope = q.3 in
    let keep = g.met.N.Nodes.keeps_node in
    keep _ _ _ _ c.fork-low.ensures.keeps (keep _ _ _ _ c.subtrees_of-under.ensures.keeps
    (root_node _ q.2 _ (nodes_in _ q.2 (Node q.0 c.args.node q.1 0 q.2) (λ a. omega arith) q.5) slope.right.root (limb_some _ q.2 _ slope.plot.right slope.right (omega (arith, slope.right.high, q.4)))))

pub fork-requires-clause-left_low : goal.fork-requires-clause-left_low
fork-requires-clause-left_low g c =
    let high : c.fork-low.result.high ≡ _ = λ i. (c.fork-low.ensures.limb i).high in
    omega (arith, high, c.requires.3.left.high, c.requires.3.low, c.subtrees_of-under.ensures.left_low)

pub fork-requires-clause-right_low : goal.fork-requires-clause-right_low
fork-requires-clause-right_low g c = omega (arith, c.subtrees_of-under.ensures.right_low)

pub returns-then-under-clause-keeps : goal.returns-then-under-clause-keeps
returns-then-under-clause-keeps g c =
    let then = g.met.N.Nodes.keeps_then in
    then _ _ _ _ c.subtrees_of-under.ensures.keeps (then _ _ _ _ c.fork-low.ensures.keeps c.fork.ensures.keeps)

pub returns-then-under-clause-loads : goal.returns-then-under-clause-loads
returns-then-under-clause-loads g c = omega (arith, c.subtrees_of-under.ensures.loads, c.fork-low.ensures.loads, c.fork.ensures.loads)

-- or the three
pub fork-low-requires-else-under-clause-node : goal.fork-low-requires-else-under-clause-node
fork-low-requires-else-under-clause-node g c =
    let q = c.requires in
    let slope = q.3 in
    let keep = g.met.N.Nodes.keeps_node in
    keep _ _ _ _ c.subtrees_of-inner.ensures.keeps (keep _ _ _ _ c.subtrees_of-under.ensures.keeps
    (root_node _ q.2 _ (nodes_in _ q.2 (Node q.0 c.args.node q.1 0 q.2) (λ a. omega arith) q.5) slope.right.root (limb_some _ q.2 _ slope.plot.right slope.right (omega (arith, slope.right.high, q.4)))))

pub fork-low-requires-else-under-clause-left_low : goal.fork-low-requires-else-under-clause-left_low
fork-low-requires-else-under-clause-left_low g c = omega (arith, c.subtrees_of-inner.ensures.right_low)

pub fork-low-requires-else-under-clause-right_low : goal.fork-low-requires-else-under-clause-right_low
fork-low-requires-else-under-clause-right_low g c = omega (arith, c.subtrees_of-under.ensures.right_low)

pub fork-other-requires-clause-node : goal.fork-other-requires-clause-node
fork-other-requires-clause-node g c =
    let q = c.requires in
    let keep = g.met.N.Nodes.keeps_node in
    keep _ _ _ _ c.fork-low-else-under.ensures.keeps (keep _ _ _ _ c.subtrees_of-inner.ensures.keeps (keep _ _ _ _ c.subtrees_of-under.ensures.keeps
    (root_node _ (Node q.0 c.args.node q.1 0 q.2) _ q.5 refl (λ none. absurd (omega (arith, none, c.requires.3.plot.some))))))

pub fork-other-requires-clause-left_low : goal.fork-other-requires-clause-left_low
fork-other-requires-clause-left_low g c = omega (arith, c.requires.3.left.high, c.requires.3.low)

pub fork-other-requires-clause-right_low : goal.fork-other-requires-clause-right_low
fork-other-requires-clause-right_low g c = omega (arith, c.subtrees_of-inner.ensures.left_low)

pub fork-requires-else-under-clause-node : goal.fork-requires-else-under-clause-node
fork-requires-else-under-clause-node g c =
    let keep = g.met.N.Nodes.keeps_node in
    keep _ _ _ _ c.fork-other.ensures.keeps (keep _ _ _ _ c.fork-low-else-under.ensures.keeps (keep _ _ _ _ c.subtrees_of-inner.ensures.keeps (keep _ _ _ _ c.subtrees_of-under.ensures.keeps
    (c.subtrees_of-under.ensures.left_node (omega (arith, c.if-under.false))))))

pub fork-requires-else-under-clause-left_low : goal.fork-requires-else-under-clause-left_low
fork-requires-else-under-clause-left_low g c =
    let high : c.fork-other.result.high ≡ _ = λ i. (c.fork-other.ensures.limb i).high in
    omega (arith, high, c.requires.3.left.high, c.requires.3.low, c.subtrees_of-inner.ensures.left_low)

pub fork-requires-else-under-clause-right_low : goal.fork-requires-else-under-clause-right_low
fork-requires-else-under-clause-right_low g c =
    let high : c.fork-low-else-under.result.high ≡ _ = λ i. (c.fork-low-else-under.ensures.limb i).high in
    omega (arith, high, c.subtrees_of-inner.ensures.right_low, c.subtrees_of-under.ensures.right_low)

pub returns-else-under-clause-keeps : goal.returns-else-under-clause-keeps
returns-else-under-clause-keeps g c =
    let then = g.met.N.Nodes.keeps_then in
    then _ _ _ _ c.subtrees_of-under.ensures.keeps (then _ _ _ _ c.subtrees_of-inner.ensures.keeps (then _ _ _ _ c.fork-low-else-under.ensures.keeps (then _ _ _ _ c.fork-other.ensures.keeps c.fork-else-under.ensures.keeps)))

pub returns-else-under-clause-loads : goal.returns-else-under-clause-loads
returns-else-under-clause-loads g c =
    omega (arith, c.subtrees_of-under.ensures.loads, c.subtrees_of-inner.ensures.loads, c.fork-low-else-under.ensures.loads, c.fork-other.ensures.loads, c.fork-else-under.ensures.loads)
