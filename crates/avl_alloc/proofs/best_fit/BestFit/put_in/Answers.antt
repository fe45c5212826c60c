use Rattle.std.proofs.Common.{arith}
use Rattle.avl_alloc.specs.Layout.{bytes_of}
use Rattle.avl_alloc.proofs.CallLemmas.{holes_fit}
use Rattle.avl_alloc.proofs.StandLemmas.{used_node, stand_low, put_in_stands, put_in_new, put_in_turn}
use Rattle.avl_alloc.proofs.best_fit.BestFit.put_in.Goals as goal

pub set_header-requires : goal.set_header-requires
set_header-requires g c =
    let q = c.requires.stand in
    used_node _ _ q.0 c.args.place q.1 c.args.size _ q.2 c.requires.fits

pub insert-self-requires : goal.insert-self-requires
insert-self-requires g c =
    let q = c.requires.stand in (
      q.2.stand.tree,
      put_in_stands _ _ _ q.0 c.args.place q.1 c.args.size q.2 c.set_header.ensures.words,
      put_in_new _ _ _ q.0 c.args.place q.1 c.args.size q.2 c.set_header.ensures.words,
      rw c.set_header.ensures.rest (holes_fit (bytes_of c.args.self.now) _ q.2.stand.tree c.requires.fits q.2.stand.laid.nodes),
      rw c.set_header.ensures.rest (used_node _ _ q.0 c.args.place q.1 c.args.size _ q.2 c.requires.fits),
    )

pub returns-clause-turn : goal.returns-clause-turn
returns-clause-turn g c at blocks stand =
    put_in_turn c.args.self.now _ _ at c.args.place blocks c.args.size stand c.set_header.ensures.words _ _ c.insert-self.ensures.made

pub returns-clause-loads : goal.returns-clause-loads
returns-clause-loads g c at blocks b stand few =
    omega (
      arith,
      stand_low _ _ at c.args.place blocks b stand.stand few,
      c.set_header.ensures.loads,
      c.insert-self.ensures.loads stand.stand.tree
          (put_in_stands _ _ _ at c.args.place blocks c.args.size stand c.set_header.ensures.words) (put_in_new _ _ _ at c.args.place blocks c.args.size stand c.set_header.ensures.words),
    )
