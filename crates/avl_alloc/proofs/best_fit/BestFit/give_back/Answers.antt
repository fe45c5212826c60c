use Rattle.std.proofs.Common.{arith}
use Rattle.avl_alloc.proofs.StandLemmas.{given_end, before_asks, before_holes, behind_asks, behind_holes, given_asks, given_holes, given_turn, turn_fits}
use Rattle.avl_alloc.proofs.best_fit.BestFit.give_back.Goals as goal

pub clear-requires-clause-stand : goal.clear-requires-clause-stand
clear-requires-clause-stand g c =
    let q = c.requires.stand in
    (_, before_asks _ _ q.0 c.args.place c.args.before c.args.size c.args.behind q.1)

pub overflow_add-place : goal.overflow_add-place
overflow_add-place g c =
    let q = c.requires.stand in
    let end = given_end _ _ q.0 c.args.place c.args.before c.args.size c.args.behind q.1 in
    omega arith

pub overflow_add-place-2 : goal.overflow_add-place-2
overflow_add-place-2 g c =
    let q = c.requires.stand in
    let end = given_end _ _ q.0 c.args.place c.args.before c.args.size c.args.behind q.1 in
    omega arith

pub overflow_add-before : goal.overflow_add-before
overflow_add-before g c =
    let q = c.requires.stand in
    let end = given_end _ _ q.0 c.args.place c.args.before c.args.size c.args.behind q.1 in
    omega arith

pub overflow_add-before-2 : goal.overflow_add-before-2
overflow_add-before-2 g c =
    let q = c.requires.stand in
    let end = given_end _ _ q.0 c.args.place c.args.before c.args.size c.args.behind q.1 in
    omega arith

pub clear-requires-2-clause-stand : goal.clear-requires-2-clause-stand
clear-requires-2-clause-stand g c =
    let q = c.requires.stand in
    let first = c.clear.ensures.turn _ (before_asks _ _ q.0 c.args.place c.args.before c.args.size c.args.behind q.1) in
    (_, behind_asks _ _ q.0 c.args.place c.args.before c.args.size c.args.behind q.1 _ _ first)

pub put_in-requires-clause-stand : goal.put_in-requires-clause-stand
put_in-requires-clause-stand g c =
    let q = c.requires.stand in
    let first = c.clear.ensures.turn _ (before_asks _ _ q.0 c.args.place c.args.before c.args.size c.args.behind q.1) in
    let second = c.clear-2.ensures.turn _ (behind_asks _ _ q.0 c.args.place c.args.before c.args.size c.args.behind q.1 _ _ first) in
    (q.0, _, given_asks _ _ q.0 c.args.place c.args.before c.args.size c.args.behind q.1 _ _ first _ _ second)

pub clear-requires-2-clause-fits : goal.clear-requires-2-clause-fits
clear-requires-2-clause-fits g c =
    let q = c.requires.stand in
    let first = c.clear.ensures.turn _ (before_asks _ _ q.0 c.args.place c.args.before c.args.size c.args.behind q.1) in
    rw c.clear.ensures.rest (turn_fits _ _ _ _ _ _ _ _ _ first c.requires.fits)

pub put_in-requires-clause-fits : goal.put_in-requires-clause-fits
put_in-requires-clause-fits g c =
    let q = c.requires.stand in
    let first = c.clear.ensures.turn _ (before_asks _ _ q.0 c.args.place c.args.before c.args.size c.args.behind q.1) in
    let second = c.clear-2.ensures.turn _ (behind_asks _ _ q.0 c.args.place c.args.before c.args.size c.args.behind q.1 _ _ first) in
    rw (c.clear-2.ensures.rest, c.clear.ensures.rest) (turn_fits _ _ _ _ _ _ _ _ _ second (turn_fits _ _ _ _ _ _ _ _ _ first c.requires.fits))

pub returns-clause-turn : goal.returns-clause-turn
returns-clause-turn g c at stand =
    let first = c.clear.ensures.turn _ (before_asks _ _ at c.args.place c.args.before c.args.size c.args.behind stand) in
    let second = c.clear-2.ensures.turn _ (behind_asks _ _ at c.args.place c.args.before c.args.size c.args.behind stand _ _ first) in
    let last = c.put_in.ensures.turn at _ (given_asks _ _ at c.args.place c.args.before c.args.size c.args.behind stand _ _ first _ _ second) in
    given_turn _ _ at c.args.place c.args.before c.args.size c.args.behind stand _ _ first _ _ second _ _ last

pub returns-clause-loads : goal.returns-clause-loads
returns-clause-loads g c at b stand few =
    let first = c.clear.ensures.turn _ (before_asks _ _ at c.args.place c.args.before c.args.size c.args.behind stand) in
    let second = c.clear-2.ensures.turn _ (behind_asks _ _ at c.args.place c.args.before c.args.size c.args.behind stand _ _ first) in
    omega (
      arith,
      c.clear.ensures.loads _ b (before_asks _ _ at c.args.place c.args.before c.args.size c.args.behind stand) (before_holes _ _ at c.args.place c.args.before c.args.size c.args.behind stand _ few),
      c.clear-2.ensures.loads _ b (behind_asks _ _ at c.args.place c.args.before c.args.size c.args.behind stand _ _ first) (behind_holes _ _ at c.args.place c.args.before c.args.size c.args.behind stand _ _ first _ few),
      c.put_in.ensures.loads at _ b (given_asks _ _ at c.args.place c.args.before c.args.size c.args.behind stand _ _ first _ _ second) (given_holes _ _ at c.args.place c.args.before c.args.size c.args.behind stand _ _ first _ _ second _ few),
    )
