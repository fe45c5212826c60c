use Rattle.std.proofs.Common.{sym, subst}
use Rattle.avl_tree.specs.Tree.{Node, balanced}
use Rattle.avl_tree.specs.Made.{IsRightNew, Reforms}
use Rattle.avl_tree.proofs.NewLemmas.{right-same}
use Rattle.avl_tree.proofs.rotations.with_right.Goals as goal

-- it is as it was
pub returns-in_err-right-clause-made : goal.returns-in_err-right-clause-made
returns-in_err-right-clause-made g c l s h r r' new =
    let made = right-same _ _ l c.args.node s h r r' (subst (IsRightNew _ _ l c.args.node s h r r') (c.in_err-right.was) new) in
    subst (Reforms _ _ _ (Node l c.args.node s h r) (balanced l c.args.node s r')) (sym c.from_residual.ensures) made

-- it is another one
pub replace_right-requires : goal.replace_right-requires
replace_right-requires g c =
    let q = c.requires in
    (q.0, q.1, q.2, q.3, q.4, subst (IsRightNew _ _ q.0 c.args.node q.1 q.2 q.3 q.4) (c.in_ok-right.was) q.5, q.6)

pub returns-clause-made : goal.returns-clause-made
returns-clause-made g c l s h r r' new =
    c.replace_right.ensures.made l s h r r' (subst (IsRightNew _ _ l c.args.node s h r r') (c.in_ok-right.was) new)
