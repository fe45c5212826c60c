use Rattle.std.proofs.Common.{arith, refl}
use Rattle.avl_alloc.proofs.StandLemmas.{stand_node, split_turn}
use Rattle.avl_alloc.proofs.best_fit.BestFit.split.Goals as goal

pub set_header-requires : goal.set_header-requires
set_header-requires g c =
    let q = c.requires.stand in
    stand_node _ _ q.0 c.args.place _ _ 0 c.args.place q.1 c.requires.fits (omega arith) (omega (arith, c.requires.size.least)) (omega arith)

pub overflow_add-place : goal.overflow_add-place
overflow_add-place g c =
    let q = c.requires.stand in
    let node = stand_node _ _ q.0 c.args.place _ _ c.args.size _ q.1 c.requires.fits c.requires.size.even (omega (arith, c.requires.left.least)) refl in
    omega (arith, node.low)

pub set_header-requires-2 : goal.set_header-requires-2
set_header-requires-2 g c =
    let q = c.requires.stand in
    rw c.set_header.ensures.rest (stand_node _ _ q.0 c.args.place _ _ c.args.size _ q.1 c.requires.fits c.requires.size.even (omega (arith, c.requires.left.least)) refl)

pub returns-clause-turn : goal.returns-clause-turn
returns-clause-turn g c at stand =
    split_turn c.args.self.now _ _ _ at c.args.place c.args.size c.args.left stand c.requires.size c.requires.left c.set_header.ensures.words c.set_header-2.ensures.words
