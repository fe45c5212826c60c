use Rattle.std.proofs.Common.{◌∙◌, refl}
use Rattle.avl_tree.proofs.StepLemmas.{find-left, find-right, find-here, find-end, find-node, find-start, find-lower_left, find-lower_right}
use Rattle.avl_tree.proofs.tree.find.Goals as goal

pub step-requires : goal.step-requires
step-requires g c =
    let q = c.requires in
    let inv = c.loop-node.invariant in
    g.met.N.Nodes.keeps_node _ _ _ _ inv.1 (find-node _ _ _ c.args.root c.loop-node.node c.loop-node.best _ _ _ c.loop-node-test.true inv.2 _ q.0 q.1 q.2)

pub loop-node-preserved-in-Left : goal.loop-node-preserved-in-Left
loop-node-preserved-in-Left g c =
    let inv = c.loop-node.invariant in (
      c.step.ensures.view ∙ inv.0,
      g.met.N.Nodes.keeps_then _ _ _ _ inv.1 c.step.ensures.keeps,
      find-left _ _ _ c.args.root c.loop-node.node c.loop-node.best _ _ _ c.loop-node-test.true inv.2 _ _ c.step.ensures.loads (rw inv.0 at c.in-Left.ensures.step),
    )

pub returns-in-Here-clause-found : goal.returns-in-Here-clause-found
returns-in-Here-clause-found g c t stands =
    let inv = c.loop-node.invariant in
    (find-here _ _ _ c.args.root c.loop-node.node c.loop-node.best _ _ _ c.loop-node-test.true inv.2 _ c.step.ensures.loads (rw inv.0 at c.in-Here.ensures.step) t stands).0

pub returns-in-Here-clause-loads : goal.returns-in-Here-clause-loads
returns-in-Here-clause-loads g c t stands =
    let inv = c.loop-node.invariant in
    (find-here _ _ _ c.args.root c.loop-node.node c.loop-node.best _ _ _ c.loop-node-test.true inv.2 _ c.step.ensures.loads (rw inv.0 at c.in-Here.ensures.step) t stands).1

pub loop-node-preserved : goal.loop-node-preserved
loop-node-preserved g c =
    let inv = c.loop-node.invariant in (
      c.step.ensures.view ∙ inv.0,
      g.met.N.Nodes.keeps_then _ _ _ _ inv.1 c.step.ensures.keeps,
      find-right _ _ _ c.args.root c.loop-node.node c.loop-node.best _ _ _ c.loop-node-test.true inv.2 _ _ c.step.ensures.loads (rw inv.0 at c.in-Right.ensures.step),
    )

pub returns-clause-found : goal.returns-clause-found
returns-clause-found g c t stands =
    (find-end _ _ _ c.args.root c.loop-node.best _ _ _ (rw c.loop-node-test.false at c.loop-node.invariant.2) t stands).0

pub loop-node-init : goal.loop-node-init
loop-node-init g c = (refl, g.met.N.Nodes.keeps_same _ _, find-start _ _ _ c.args.root _ _)

pub loop-node-smaller-in-Left : goal.loop-node-smaller-in-Left
loop-node-smaller-in-Left g c =
    let q = c.requires in
    let inv = c.loop-node.invariant in
    rw (c.step.ensures.view, inv.0)
    (find-lower_left _ _ _ c.args.root c.loop-node.node c.loop-node.best _ _ _ c.loop-node-test.true inv.2 _ (rw inv.0 at c.in-Left.ensures.step) q.0 q.1)

pub loop-node-smaller : goal.loop-node-smaller
loop-node-smaller g c =
    let q = c.requires in
    let inv = c.loop-node.invariant in
    rw (c.step.ensures.view, inv.0)
    (find-lower_right _ _ _ c.args.root c.loop-node.node c.loop-node.best _ _ _ c.loop-node-test.true inv.2 _ (rw inv.0 at c.in-Right.ensures.step) q.0 q.1)

pub returns-in-Here-clause-keeps : goal.returns-in-Here-clause-keeps
returns-in-Here-clause-keeps g c = g.met.N.Nodes.keeps_then _ _ _ _ c.loop-node.invariant.1 c.step.ensures.keeps
