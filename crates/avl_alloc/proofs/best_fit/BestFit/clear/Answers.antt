use Rattle.std.proofs.Common.{subst, ◌<◌, ◌^◌}
use Rattle.avl_alloc.specs.Layout.{hole_count}
use Rattle.avl_alloc.specs.Context.{heap_with, Stand}
use Rattle.avl_alloc.proofs.StandLemmas.{gap_some, clear_some}
use Rattle.avl_alloc.proofs.best_fit.BestFit.clear.Goals as goal

pub returns-then-size-gt0-clause-turn : goal.returns-then-size-gt0-clause-turn
returns-then-size-gt0-clause-turn g c = clear_some _ _ _ _ c.args.place c.args.size c.if-size-gt0.true c.take_out.ensures.turn

pub returns-then-size-gt0-clause-loads : goal.returns-then-size-gt0-clause-loads
returns-then-size-gt0-clause-loads g c at b stand few =
    let is = gap_some c.args.size c.if-size-gt0.true in
    c.take_out.ensures.loads at b (subst (Stand _ _ at c.args.place) is stand) (subst (λ z. hole_count (heap_with at z) < 2 ^ b) is few)
