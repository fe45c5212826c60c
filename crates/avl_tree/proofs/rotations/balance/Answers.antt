use Rattle.std.proofs.Common.{arith}
use Rattle.avl_tree.proofs.ViewLemmas.{fork_forms}
use Rattle.avl_tree.proofs.TurnLemmas.{balance-right, balance-left, balance-fork}
use Rattle.avl_tree.proofs.rotations.balance.Goals as goal

pub returns-then-right-left-clause-made : goal.returns-then-right-left-clause-made
returns-then-right-left-clause-made g c l s r slope =
    balance-right _ _ _ l c.args.node s r _ (omega (arith, c.if-right-left.true, slope.left.high, slope.right.high))
    (c.turn_right.ensures.made l s r slope (omega (arith, c.if-right-left.true, slope.left.high, slope.right.high, slope.left_near)))

pub returns-then-left-right-clause-made : goal.returns-then-left-right-clause-made
returns-then-left-right-clause-made g c l s r slope =
    balance-left _ _ _ l c.args.node s r _ (omega (arith, c.if-left-right.true, slope.left.high, slope.right.high))
    (c.turn_left.ensures.made l s r slope (omega (arith, c.if-left-right.true, slope.left.high, slope.right.high, slope.right_near)))

pub returns-else-left-right-clause-made : goal.returns-else-left-right-clause-made
returns-else-left-right-clause-made g c l s r slope =
    balance-fork _ _ _ l c.args.node s r _ (omega (arith, c.if-right-left.false, slope.left.high, slope.right.high)) (omega (arith, c.if-left-right.false, slope.left.high, slope.right.high))
    (fork_forms _ _ _ l c.args.node s r c.args.left c.args.right _ slope.plot slope.left slope.right c.fork.ensures.limb c.fork.ensures.links)
