use Rattle.std.proofs.Common.{ℕ, ◌<◌, refl, subst, arith}
use Rattle.avl_tree.specs.Tree.{Leaf}
use Rattle.avl_tree.specs.View.{height_at}
use Rattle.avl_tree.proofs.ViewLemmas.{fork_forms}
use Rattle.avl_tree.proofs.StepLemmas.{lower_to_left, lower_to_right}
use Rattle.avl_tree.proofs.GrowLemmas.{Grows, grow-leaf_made, grow-left_asks, grow-right_asks, grow-left_new_asks, grow-right_new_asks, grow-left_made, grow-right_made, grow-left_loads, grow-right_loads, grow-here_none}
use Rattle.avl_tree.proofs.tree.+grow.Goals as goal

-- the tree without a node
pub returns-then-root-eq0-clause-made : goal.returns-then-root-eq0-clause-made
returns-then-root-eq0-clause-made g t c =
    grow-leaf_made _ _ c.args.node _ _ _ c.args.root c.if-root-eq0.true
    (λ new. fork_forms _ _ _ Leaf c.args.node _ Leaf (record { root = 0; high = 0 }) (record { root = 0; high = 0 }) _
    (record { left = tt; right = tt; some = new.some; rank = new.rank; apart = λ q. omega (arith, new.apart q) })
    (record { root = refl; high = refl }) (record { root = refl; high = refl }) c.fork.ensures.limb c.fork.ensures.links)

-- the left tree takes it
pub grow-left-requires : goal.grow-left-requires
grow-left-requires g t c κs within =
    let q = c.requires in
    let keep : (a : ℕ) → g.N.Nodes.IsNode c.args.nodes.now c.args.memory.now a → g.N.Nodes.IsNode c.args.nodes.now c.step.new.memory a = λ a is. g.met.N.Nodes.keeps_node _ _ _ a c.step.ensures.keeps is in
    let below = lower_to_left _ _ _ c.args.root c.if-root-eq0.false _ c.in-Left.ensures.step q.0 q.1 in
    let less : height_at (g.N.Nodes.view c.args.nodes.now c.step.new.memory) c.in-Left.child < height_at (g.N.Nodes.view c.args.nodes.now c.args.memory.now) c.args.root = rw c.step.ensures.view below in (
      omega (arith, less),
      (
        within.0,
        (
          within.1.0,
          (
            within.1.1,
            rw c.step.ensures.view
                (grow-left_asks _ _ c.args.node _ c.args.root c.if-root-eq0.false _ _ c.in-Left.ensures.step q.0 q.1 q.2 (λ a there. keep a (q.3 a there)) (keep _ q.4)),
          ),
        ),
      ),
    )

pub with_left-requires : goal.with_left-requires
with_left-requires g t c =
    let q = c.requires in
    let keep : (a : ℕ) → g.N.Nodes.IsNode c.args.nodes.now c.args.memory.now a → g.N.Nodes.IsNode c.args.nodes.now c.grow-left.new.memory a = λ a is. g.met.N.Nodes.keeps_node _ _ _ a c.grow-left.ensures.keeps (g.met.N.Nodes.keeps_node _ _ _ a c.step.ensures.keeps is) in
    let grows = subst (λ w. Grows g.N.Nodes.plan w c.args.node (g.N.Nodes.rank c.args.key) c.args.root c.if-root-eq0.false c.in-Left.child (g.N.Nodes.view c.args.nodes.now c.grow-left.new.memory) c.in-Left.child c.grow-left.result) c.step.ensures.view c.grow-left.ensures.made in
    grow-left_new_asks _ _ c.args.node _ c.args.root c.if-root-eq0.false _ _ _ grows _ c.in-Left.ensures.step q.0 q.1 q.2 (λ a there. keep a (q.3 a there)) (keep _ q.4)

pub returns-in-Left-clause-made : goal.returns-in-Left-clause-made
returns-in-Left-clause-made g t c =
    let grows = subst (λ w. Grows g.N.Nodes.plan w c.args.node (g.N.Nodes.rank c.args.key) c.args.root c.if-root-eq0.false c.in-Left.child (g.N.Nodes.view c.args.nodes.now c.grow-left.new.memory) c.in-Left.child c.grow-left.result) c.step.ensures.view c.grow-left.ensures.made in
    grow-left_made _ _ c.args.node _ c.args.root c.if-root-eq0.false _ _ _ grows _ _ c.in-Left.ensures.step c.with_left.ensures.made

pub returns-in-Left-clause-loads : goal.returns-in-Left-clause-loads
returns-in-Left-clause-loads g t c =
    grow-left_loads _ _ c.args.node _ c.args.root c.if-root-eq0.false _ _ (g.N.Nodes.loads c.grow-left.new.memory) _ (g.N.Nodes.loads c.args.memory.now) c.in-Left.ensures.step c.with_left.ensures.loads
    (λ u stands new. omega (arith, c.step.ensures.loads, c.grow-left.ensures.loads u (rw c.step.ensures.view stands) (rw c.step.ensures.view new)))

-- the right tree takes it
pub grow-right-requires : goal.grow-right-requires
grow-right-requires g t c κs within =
    let q = c.requires in
    let keep : (a : ℕ) → g.N.Nodes.IsNode c.args.nodes.now c.args.memory.now a → g.N.Nodes.IsNode c.args.nodes.now c.step.new.memory a = λ a is. g.met.N.Nodes.keeps_node _ _ _ a c.step.ensures.keeps is in
    let below = lower_to_right _ _ _ c.args.root c.if-root-eq0.false _ c.in-Right.ensures.step q.0 q.1 in
    let less : height_at (g.N.Nodes.view c.args.nodes.now c.step.new.memory) c.in-Right.child < height_at (g.N.Nodes.view c.args.nodes.now c.args.memory.now) c.args.root = rw c.step.ensures.view below in (
      omega (arith, less),
      (
        within.0,
        (
          within.1.0,
          (
            within.1.1,
            rw c.step.ensures.view
                (grow-right_asks _ _ c.args.node _ c.args.root c.if-root-eq0.false _ _ c.in-Right.ensures.step q.0 q.1 q.2 (λ a there. keep a (q.3 a there)) (keep _ q.4)),
          ),
        ),
      ),
    )

pub with_right-requires : goal.with_right-requires
with_right-requires g t c =
    let q = c.requires in
    let keep : (a : ℕ) → g.N.Nodes.IsNode c.args.nodes.now c.args.memory.now a → g.N.Nodes.IsNode c.args.nodes.now c.grow-right.new.memory a = λ a is. g.met.N.Nodes.keeps_node _ _ _ a c.grow-right.ensures.keeps (g.met.N.Nodes.keeps_node _ _ _ a c.step.ensures.keeps is) in
    let grows = subst (λ w. Grows g.N.Nodes.plan w c.args.node (g.N.Nodes.rank c.args.key) c.args.root c.if-root-eq0.false c.in-Right.child (g.N.Nodes.view c.args.nodes.now c.grow-right.new.memory) c.in-Right.child c.grow-right.result) c.step.ensures.view c.grow-right.ensures.made in
    grow-right_new_asks _ _ c.args.node _ c.args.root c.if-root-eq0.false _ _ _ grows _ c.in-Right.ensures.step q.0 q.1 q.2 (λ a there. keep a (q.3 a there)) (keep _ q.4)

pub returns-in-Right-clause-made : goal.returns-in-Right-clause-made
returns-in-Right-clause-made g t c =
    let grows = subst (λ w. Grows g.N.Nodes.plan w c.args.node (g.N.Nodes.rank c.args.key) c.args.root c.if-root-eq0.false c.in-Right.child (g.N.Nodes.view c.args.nodes.now c.grow-right.new.memory) c.in-Right.child c.grow-right.result) c.step.ensures.view c.grow-right.ensures.made in
    grow-right_made _ _ c.args.node _ c.args.root c.if-root-eq0.false _ _ _ grows _ _ c.in-Right.ensures.step c.with_right.ensures.made

pub returns-in-Right-clause-loads : goal.returns-in-Right-clause-loads
returns-in-Right-clause-loads g t c =
    grow-right_loads _ _ c.args.node _ c.args.root c.if-root-eq0.false _ _ (g.N.Nodes.loads c.grow-right.new.memory) _ (g.N.Nodes.loads c.args.memory.now) c.in-Right.ensures.step c.with_right.ensures.loads
    (λ u stands new. omega (arith, c.step.ensures.loads, c.grow-right.ensures.loads u (rw c.step.ensures.view stands) (rw c.step.ensures.view new)))

-- what is kept
pub returns-in-Left-clause-keeps : goal.returns-in-Left-clause-keeps
returns-in-Left-clause-keeps g t c =
    let then = g.met.N.Nodes.keeps_then in
    then _ _ _ _ c.step.ensures.keeps (then _ _ _ _ c.grow-left.ensures.keeps c.with_left.ensures.keeps)

pub returns-in-Right-clause-keeps : goal.returns-in-Right-clause-keeps
returns-in-Right-clause-keeps g t c =
    let then = g.met.N.Nodes.keeps_then in
    then _ _ _ _ c.step.ensures.keeps (then _ _ _ _ c.grow-right.ensures.keeps c.with_right.ensures.keeps)

pub returns-in-Here-clause-made : goal.returns-in-Here-clause-made
returns-in-Here-clause-made g t c u stands new = absurd (grow-here_none _ _ _ _ c.args.root c.if-root-eq0.false c.in-Here.ensures.step u stands new)

pub returns-in-Here-clause-loads : goal.returns-in-Here-clause-loads
returns-in-Here-clause-loads g t c u stands new = absurd (grow-here_none _ _ _ _ c.args.root c.if-root-eq0.false c.in-Here.ensures.step u stands new)
