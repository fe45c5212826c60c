use Rattle.std.proofs.Common.{arith}
use Rattle.avl_alloc.specs.Layout.{bytes_of}
use Rattle.avl_alloc.proofs.CallLemmas.{holes_fit}
use Rattle.avl_alloc.proofs.StandLemmas.{stand_node, stand_laid, stand_low, take_out_turn}
use Rattle.avl_alloc.proofs.best_fit.BestFit.take_out.Goals as goal

pub remove-self-requires : goal.remove-self-requires
remove-self-requires g c =
    let q = c.requires.stand in
    (q.1.tree, q.1.laid.stands, holes_fit (bytes_of c.args.self.now) _ q.1.tree c.requires.fits q.1.laid.nodes)

pub set_state-requires : goal.set_state-requires
set_state-requires g c =
    let q = c.requires.stand in
    let laid = stand_laid _ _ q.0 c.args.place _ q.1 in
    rw c.remove-self.ensures.keeps (stand_node _ _ q.0 c.args.place _ _ 0 c.args.place q.1 c.requires.fits (omega arith) (omega (arith, laid.0.sized.least)) (omega arith))

pub returns-clause-turn : goal.returns-clause-turn
returns-clause-turn g c at stand =
    take_out_turn c.args.self.now _ _ _ at c.args.place c.args.size _ stand c.remove-self.ensures.made c.set_state.ensures.words

pub returns-clause-loads : goal.returns-clause-loads
returns-clause-loads g c at b stand few =
    omega (arith, c.remove-self.ensures.loads stand.tree stand.laid.stands, stand_low _ _ at c.args.place _ b stand few, c.set_state.ensures.loads)
