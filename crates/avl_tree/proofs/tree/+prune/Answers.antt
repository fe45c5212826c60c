use Rattle.std.proofs.Common.{ℕ, ◌<◌, sym, subst, arith}
use Rattle.avl_tree.specs.View.{height_at}
use Rattle.avl_tree.proofs.StepLemmas.{Prunes, lower_to_left, lower_to_right, prune-leaf_made, prune-left_asks, prune-right_asks, prune-left_new_asks, prune-right_new_asks, prune-left_made, prune-right_made, prune-here_made, left_loads, right_loads, here_loads, prune-here_asks}
use Rattle.avl_tree.proofs.tree.+prune.Goals as goal

-- the tree without a node
pub returns-then-root-eq0-clause-made : goal.returns-then-root-eq0-clause-made
returns-then-root-eq0-clause-made g t c = prune-leaf_made _ _ _ c.args.root c.if-root-eq0.true

-- the left tree loses it
pub prune-left-requires : goal.prune-left-requires
prune-left-requires g t c κs within =
    let q = c.requires in
    let keep : (a : ℕ) → g.N.Nodes.IsNode c.args.nodes.now c.args.memory.now a → g.N.Nodes.IsNode c.args.nodes.now c.step.new.memory a = λ a is. g.met.N.Nodes.keeps_node _ _ _ a c.step.ensures.keeps is in
    let below = lower_to_left _ _ _ c.args.root c.if-root-eq0.false _ c.in-Left.ensures.step q.0 q.1 in
    let less : height_at (g.N.Nodes.view c.args.nodes.now c.step.new.memory) c.in-Left.child < height_at (g.N.Nodes.view c.args.nodes.now c.args.memory.now) c.args.root = rw c.step.ensures.view below in (
      omega (arith, less),
      (
        within.0,
        (
          within.1.0,
          (
            within.1.1,
            rw c.step.ensures.view
                (prune-left_asks _ _ _ c.args.root c.if-root-eq0.false _ _ c.in-Left.ensures.step q.0 q.1 (λ a there. keep a (q.2 a there))),
          ),
        ),
      ),
    )

pub with_left-requires : goal.with_left-requires
with_left-requires g t c =
    let q = c.requires in
    let keep : (a : ℕ) → g.N.Nodes.IsNode c.args.nodes.now c.args.memory.now a → g.N.Nodes.IsNode c.args.nodes.now c.prune-left.new.memory a = λ a is. g.met.N.Nodes.keeps_node _ _ _ a c.prune-left.ensures.keeps (g.met.N.Nodes.keeps_node _ _ _ a c.step.ensures.keeps is) in
    let prunes = subst (λ w. Prunes g.N.Nodes.plan w (g.N.Nodes.rank c.args.key) c.args.root c.if-root-eq0.false (g.N.Nodes.view c.args.nodes.now c.prune-left.new.memory) c.in-Left.child c.prune-left.result) c.step.ensures.view c.prune-left.ensures.made in
    prune-left_new_asks _ _ _ c.args.root c.if-root-eq0.false _ _ _ prunes _ c.in-Left.ensures.step q.0 q.1 (λ a there. keep a (q.2 a there))

pub returns-in-Left-clause-made : goal.returns-in-Left-clause-made
returns-in-Left-clause-made g t c =
    let prunes = subst (λ w. Prunes g.N.Nodes.plan w (g.N.Nodes.rank c.args.key) c.args.root c.if-root-eq0.false (g.N.Nodes.view c.args.nodes.now c.prune-left.new.memory) c.in-Left.child c.prune-left.result) c.step.ensures.view c.prune-left.ensures.made in
    prune-left_made _ _ _ c.args.root c.if-root-eq0.false _ _ _ prunes _ _ c.in-Left.ensures.step c.with_left.ensures.made

pub returns-in-Left-clause-loads : goal.returns-in-Left-clause-loads
returns-in-Left-clause-loads g t c =
    left_loads _ _ _ c.args.root c.if-root-eq0.false _ (g.N.Nodes.loads c.prune-left.new.memory) _ (g.N.Nodes.loads c.args.memory.now) _ c.in-Left.ensures.step c.with_left.ensures.loads
    (λ u stands. omega (arith, c.step.ensures.loads, c.prune-left.ensures.loads u (rw c.step.ensures.view stands)))

-- the right tree loses it
pub prune-right-requires : goal.prune-right-requires
prune-right-requires g t c κs within =
    let q = c.requires in
    let keep : (a : ℕ) → g.N.Nodes.IsNode c.args.nodes.now c.args.memory.now a → g.N.Nodes.IsNode c.args.nodes.now c.step.new.memory a = λ a is. g.met.N.Nodes.keeps_node _ _ _ a c.step.ensures.keeps is in
    let below = lower_to_right _ _ _ c.args.root c.if-root-eq0.false _ c.in-Right.ensures.step q.0 q.1 in
    let less : height_at (g.N.Nodes.view c.args.nodes.now c.step.new.memory) c.in-Right.child < height_at (g.N.Nodes.view c.args.nodes.now c.args.memory.now) c.args.root = rw c.step.ensures.view below in (
      omega (arith, less),
      (
        within.0,
        (
          within.1.0,
          (
            within.1.1,
            rw c.step.ensures.view
                (prune-right_asks _ _ _ c.args.root c.if-root-eq0.false _ _ c.in-Right.ensures.step q.0 q.1 (λ a there. keep a (q.2 a there))),
          ),
        ),
      ),
    )

pub with_right-requires : goal.with_right-requires
with_right-requires g t c =
    let q = c.requires in
    let keep : (a : ℕ) → g.N.Nodes.IsNode c.args.nodes.now c.args.memory.now a → g.N.Nodes.IsNode c.args.nodes.now c.prune-right.new.memory a = λ a is. g.met.N.Nodes.keeps_node _ _ _ a c.prune-right.ensures.keeps (g.met.N.Nodes.keeps_node _ _ _ a c.step.ensures.keeps is) in
    let prunes = subst (λ w. Prunes g.N.Nodes.plan w (g.N.Nodes.rank c.args.key) c.args.root c.if-root-eq0.false (g.N.Nodes.view c.args.nodes.now c.prune-right.new.memory) c.in-Right.child c.prune-right.result) c.step.ensures.view c.prune-right.ensures.made in
    prune-right_new_asks _ _ _ c.args.root c.if-root-eq0.false _ _ _ prunes _ c.in-Right.ensures.step q.0 q.1 (λ a there. keep a (q.2 a there))

pub returns-in-Right-clause-made : goal.returns-in-Right-clause-made
returns-in-Right-clause-made g t c =
    let prunes = subst (λ w. Prunes g.N.Nodes.plan w (g.N.Nodes.rank c.args.key) c.args.root c.if-root-eq0.false (g.N.Nodes.view c.args.nodes.now c.prune-right.new.memory) c.in-Right.child c.prune-right.result) c.step.ensures.view c.prune-right.ensures.made in
    prune-right_made _ _ _ c.args.root c.if-root-eq0.false _ _ _ prunes _ _ c.in-Right.ensures.step c.with_right.ensures.made

pub returns-in-Right-clause-loads : goal.returns-in-Right-clause-loads
returns-in-Right-clause-loads g t c =
    right_loads _ _ _ c.args.root c.if-root-eq0.false _ (g.N.Nodes.loads c.prune-right.new.memory) _ (g.N.Nodes.loads c.args.memory.now) _ c.in-Right.ensures.step c.with_right.ensures.loads
    (λ u stands. omega (arith, c.step.ensures.loads, c.prune-right.ensures.loads u (rw c.step.ensures.view stands)))

-- its trees are joined
pub returns-in-Here-clause-made : goal.returns-in-Here-clause-made
returns-in-Here-clause-made g t c =
    prune-here_made _ _ _ c.args.root c.if-root-eq0.false _ _ c.in-Here.ensures.step
    (λ l s h r stands. rw (sym c.step.ensures.view) (c.join.ensures.made l s h r (rw c.step.ensures.view stands)))

pub returns-in-Here-clause-loads : goal.returns-in-Here-clause-loads
returns-in-Here-clause-loads g t c =
    here_loads _ _ (g.N.Nodes.rank c.args.key) c.args.root c.if-root-eq0.false _ _ _
    (λ l s h r stands. omega (arith, c.step.ensures.loads, c.join.ensures.loads l s h r (rw c.step.ensures.view stands)))

-- what is kept
pub returns-in-Left-clause-keeps : goal.returns-in-Left-clause-keeps
returns-in-Left-clause-keeps g t c =
    let then = g.met.N.Nodes.keeps_then in
    then _ _ _ _ c.step.ensures.keeps (then _ _ _ _ c.prune-left.ensures.keeps c.with_left.ensures.keeps)

pub returns-in-Right-clause-keeps : goal.returns-in-Right-clause-keeps
returns-in-Right-clause-keeps g t c =
    let then = g.met.N.Nodes.keeps_then in
    then _ _ _ _ c.step.ensures.keeps (then _ _ _ _ c.prune-right.ensures.keeps c.with_right.ensures.keeps)

pub returns-in-Here-clause-keeps : goal.returns-in-Here-clause-keeps
returns-in-Here-clause-keeps g t c =
    let then = g.met.N.Nodes.keeps_then in
    then _ _ _ _ c.step.ensures.keeps c.join.ensures.keeps

pub join-requires : goal.join-requires
join-requires g t c =
    let q = c.requires in
    rw c.step.ensures.view
    (prune-here_asks _ _ (g.N.Nodes.rank c.args.key) c.args.root c.if-root-eq0.false _ q.0 q.1 (λ a there. g.met.N.Nodes.keeps_node _ _ _ a c.step.ensures.keeps (q.2 a there)))
