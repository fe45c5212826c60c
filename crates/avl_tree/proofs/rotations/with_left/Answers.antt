use Rattle.std.proofs.Common.{sym, subst}
use Rattle.avl_tree.specs.Tree.{Node, balanced}
use Rattle.avl_tree.specs.Made.{IsLeftNew, Reforms}
use Rattle.avl_tree.proofs.NewLemmas.{left-same}
use Rattle.avl_tree.proofs.rotations.with_left.Goals as goal

-- it is as it was
pub returns-in_err-left-clause-made : goal.returns-in_err-left-clause-made
returns-in_err-left-clause-made g c l l' s h r new =
    let made = left-same _ _ l l' c.args.node s h r (subst (IsLeftNew _ _ l l' c.args.node s h r) (c.in_err-left.was) new) in
    subst (Reforms _ _ _ (Node l c.args.node s h r) (balanced l' c.args.node s r)) (sym c.from_residual.ensures) made

-- it is another one
pub replace_left-requires : goal.replace_left-requires
replace_left-requires g c =
    let q = c.requires in
    (q.0, q.1, q.2, q.3, q.4, subst (IsLeftNew _ _ q.0 q.1 c.args.node q.2 q.3 q.4) (c.in_ok-left.was) q.5, q.6)

pub returns-clause-made : goal.returns-clause-made
returns-clause-made g c l l' s h r new =
    c.replace_left.ensures.made l l' s h r (subst (IsLeftNew _ _ l l' c.args.node s h r) (c.in_ok-left.was) new)
