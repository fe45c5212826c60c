use Rattle.std.proofs.Common.{ℕ, ◌<◌, subst, arith}
use Rattle.avl_tree.specs.View.{height_at}
use Rattle.avl_tree.proofs.PartLemmas.{Parts, part-here_first, part-here_made, part_lower, part-left_asks, part-left_first, part-left_new_asks, part-left_made, part-left_loads}
use Rattle.avl_tree.proofs.ViewLemmas.{root_node}
use Rattle.avl_tree.proofs.tree.+part_first.Goals as goal

-- the root is the first node
pub returns-then-links-eq0-clause-first : goal.returns-then-links-eq0-clause-first
returns-then-links-eq0-clause-first g t c =
    let q = c.requires in
    part-here_first _ _ c.args.root c.links-links.result q.3 c.links-links.ensures.links c.if-links-eq0.true

pub returns-then-links-eq0-clause-made : goal.returns-then-links-eq0-clause-made
returns-then-links-eq0-clause-made g t c =
    let q = c.requires in
    rw (c.subtree_of.ensures.view, c.links-links.ensures.view)
    (part-here_made _ _ c.args.root c.links-links.result q.3 c.links-links.ensures.links _ c.if-links-eq0.true
    (λ r held at. c.subtree_of.ensures.is r (rw c.links-links.ensures.view held) at))

-- the left tree has it
pub part_first-parted-requires : goal.part_first-parted-requires
part_first-parted-requires g t c κs within =
    let q = c.requires in
    let keep : (a : ℕ) → g.N.Nodes.IsNode c.args.nodes.now c.args.memory.now a → g.N.Nodes.IsNode c.args.nodes.now c.links-links.new.memory a = λ a is. g.met.N.Nodes.keeps_node _ _ _ a c.links-links.ensures.keeps is in
    let below = part_lower _ _ c.args.root c.links-links.result q.3 c.links-links.ensures.links q.0 q.1 in
    let less : height_at (g.N.Nodes.view c.args.nodes.now c.links-links.new.memory) c.links-links.result.left < height_at (g.N.Nodes.view c.args.nodes.now c.args.memory.now) c.args.root = rw c.links-links.ensures.view below in (
      omega (arith, less),
      (
        within.0,
        (
          within.1.0,
          (
            within.1.1,
            rw c.links-links.ensures.view
                (part-left_asks _ _ c.args.root c.links-links.result q.3 c.links-links.ensures.links _ c.if-links-eq0.false q.0 q.1 (λ a there. keep a (q.2 a there))),
          ),
        ),
      ),
    )

pub with_left-rest-requires : goal.with_left-rest-requires
with_left-rest-requires g t c =
    let q = c.requires in
    let keep : (a : ℕ) → g.N.Nodes.IsNode c.args.nodes.now c.args.memory.now a → g.N.Nodes.IsNode c.args.nodes.now c.part_first-parted.new.memory a = λ a is. g.met.N.Nodes.keeps_node _ _ _ a c.part_first-parted.ensures.keeps (g.met.N.Nodes.keeps_node _ _ _ a c.links-links.ensures.keeps is) in
    let parts = subst (λ w. Parts g.N.Nodes.plan w (g.N.Nodes.view c.args.nodes.now c.part_first-parted.new.memory) c.links-links.result.left c.part_first-parted.result.rest) c.links-links.ensures.view c.part_first-parted.ensures.made in
    part-left_new_asks _ _ c.args.root c.links-links.result q.3 c.links-links.ensures.links _ _ c.if-links-eq0.false parts _ q.0 q.1 (λ a there. keep a (q.2 a there))

pub returns-clause-first : goal.returns-clause-first
returns-clause-first g t c =
    let q = c.requires in
    part-left_first _ _ c.args.root c.links-links.result q.3 c.links-links.ensures.links _ c.if-links-eq0.false
    (λ u stands. c.part_first-parted.ensures.first u (rw c.links-links.ensures.view stands))

pub returns-clause-made : goal.returns-clause-made
returns-clause-made g t c =
    let q = c.requires in
    let parts = subst (λ w. Parts g.N.Nodes.plan w (g.N.Nodes.view c.args.nodes.now c.part_first-parted.new.memory) c.links-links.result.left c.part_first-parted.result.rest) c.links-links.ensures.view c.part_first-parted.ensures.made in
    part-left_made _ _ c.args.root c.links-links.result q.3 c.links-links.ensures.links _ _ c.if-links-eq0.false parts _ _ c.with_left-rest.ensures.made

pub returns-clause-loads : goal.returns-clause-loads
returns-clause-loads g t c =
    let q = c.requires in
    part-left_loads _ _ c.args.root c.links-links.result q.3 c.links-links.ensures.links _ (g.N.Nodes.loads c.part_first-parted.new.memory) _ (g.N.Nodes.loads c.args.memory.now) c.with_left-rest.ensures.loads
    (λ u stands. omega (arith, c.links-links.ensures.loads, c.part_first-parted.ensures.loads u (rw c.links-links.ensures.view stands)))

pub returns-clause-keeps : goal.returns-clause-keeps
returns-clause-keeps g t c =
    let then = g.met.N.Nodes.keeps_then in
    then _ _ _ _ c.links-links.ensures.keeps (then _ _ _ _ c.part_first-parted.ensures.keeps c.with_left-rest.ensures.keeps)

pub returns-then-links-eq0-clause-keeps : goal.returns-then-links-eq0-clause-keeps
returns-then-links-eq0-clause-keeps g t c = g.met.N.Nodes.keeps_then _ _ _ _ c.links-links.ensures.keeps c.subtree_of.ensures.keeps

pub links-links-requires : goal.links-links-requires
links-links-requires g t c = let q = c.requires in root_node _ q.0 _ q.2 q.1.at q.3
