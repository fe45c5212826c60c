use Rattle.std.proofs.Common.{◌∙◌, arith}
use Rattle.avl_alloc.proofs.StandLemmas.{behind_node, behind_none, behind_hole}
use Rattle.avl_alloc.proofs.best_fit.BestFit.hole_behind.Goals as goal

pub hole_at-requires : goal.hole_at-requires
hole_at-requires g c =
    let q = c.requires.stand in
    behind_node _ _ q.0 c.args.place q.1 _ q.2 c.requires.fits (λ none. c.if-place-end.false (omega arith))

pub returns-then-place-end-clause-hole : goal.returns-then-place-end-clause-hole
returns-then-place-end-clause-hole g c at blocks stand end = behind_none _ _ at c.args.place blocks stand (omega (arith, c.if-place-end.true))

pub returns-else-place-end-clause-hole : goal.returns-else-place-end-clause-hole
returns-else-place-end-clause-hole g c at blocks stand end = c.hole_at.ensures.size ∙ behind_hole _ _ at c.args.place blocks stand (λ none. c.if-place-end.false (omega arith))
