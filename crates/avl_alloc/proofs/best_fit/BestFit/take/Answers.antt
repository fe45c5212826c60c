use Rattle.std.proofs.Common.{ℕ, ◌-◌, arith}
use Rattle.avl_alloc.proofs.StandLemmas.{stand_node, stand_laid, first_place, hole_size, stand_end, turn_fits, take_turn, cut_whole, split_asks, left_asks, left_holes, cut_turn}
use Rattle.avl_alloc.proofs.best_fit.BestFit.take.Goals as goal

pub load-whole-requires : goal.load-whole-requires
load-whole-requires g c =
    let q = c.requires.stand in
    let laid = stand_laid _ _ q.0 c.args.place _ q.2 in
    first_place _ c.args.place (stand_node _ _ q.0 c.args.place _ _ 0 c.args.place q.2 c.requires.fits (omega arith) (omega (arith, laid.0.sized.least)) (omega arith))

pub take_out-requires-clause-stand : goal.take_out-requires-clause-stand
take_out-requires-clause-stand g c =
    let q = c.requires.stand in
    let size = hole_size _ _ q.0 c.args.place q.1 _ q.2 c.load-whole.ensures.value in
    (q.0, rw (c.load-whole.ensures.words, ← size) q.2)

pub overflow_sub-left : goal.overflow_sub-left
overflow_sub-left g c =
    let q = c.requires.stand in
    let size = hole_size _ _ q.0 c.args.place q.1 _ q.2 c.load-whole.ensures.value in
    omega arith

pub returns-then-left-lt-LEAST_BLOCK-clause-turn : goal.returns-then-left-lt-LEAST_BLOCK-clause-turn
returns-then-left-lt-LEAST_BLOCK-clause-turn g c at n stand le =
    let size = hole_size _ _ at c.args.place n _ stand c.load-whole.ensures.value in
    let taken = take_turn _ _ _ _ _ at c.args.place n _ stand c.load-whole.ensures.value c.load-whole.ensures.words c.take_out.ensures.turn in
    cut_whole _ _ _ _ at c.args.place n c.args.size (c.load-whole.result - c.args.size) (omega arith) taken c.if-left-lt-LEAST_BLOCK.true

pub returns-then-left-lt-LEAST_BLOCK-clause-loads : goal.returns-then-left-lt-LEAST_BLOCK-clause-loads
returns-then-left-lt-LEAST_BLOCK-clause-loads g c at n b stand le few =
    let size = hole_size _ _ at c.args.place n _ stand c.load-whole.ensures.value in
    omega (arith, c.load-whole.ensures.loads, c.take_out.ensures.loads at b (rw (c.load-whole.ensures.words, ← size) stand) (rw (← size) few))

pub split-requires-clause-stand : goal.split-requires-clause-stand
split-requires-clause-stand g c =
    let q = c.requires.stand in
    let size = hole_size _ _ q.0 c.args.place q.1 _ q.2 c.load-whole.ensures.value in
    let taken = take_turn _ _ _ _ _ q.0 c.args.place q.1 _ q.2 c.load-whole.ensures.value c.load-whole.ensures.words c.take_out.ensures.turn in
    (q.0, split_asks _ _ _ _ q.0 c.args.place q.1 c.args.size (c.load-whole.result - c.args.size) (omega arith) taken)

pub split-requires-clause-left : goal.split-requires-clause-left
split-requires-clause-left g c =
    let q = c.requires.stand in
    let size = hole_size _ _ q.0 c.args.place q.1 _ q.2 c.load-whole.ensures.value in
    let laid = stand_laid _ _ q.0 c.args.place _ q.2 in
    let even = laid.0.sized.even in
    let even' = c.requires.size.even in
    record { least = c.if-left-lt-LEAST_BLOCK.false; even = omega arith }

pub split-requires-clause-fits : goal.split-requires-clause-fits
split-requires-clause-fits g c =
    let q = c.requires.stand in
    let taken = take_turn _ _ _ _ _ q.0 c.args.place q.1 _ q.2 c.load-whole.ensures.value c.load-whole.ensures.words c.take_out.ensures.turn in
    rw (c.take_out.ensures.rest, c.load-whole.ensures.rest) (turn_fits _ _ _ _ _ _ _ _ _ taken c.requires.fits)

pub overflow_add-place : goal.overflow_add-place
overflow_add-place g c =
    let q = c.requires.stand in
    omega (arith, stand_end _ _ q.0 c.args.place _ q.2)

pub put_in-requires-clause-stand : goal.put_in-requires-clause-stand
put_in-requires-clause-stand g c =
    let q = c.requires.stand in
    let size = hole_size _ _ q.0 c.args.place q.1 _ q.2 c.load-whole.ensures.value in
    let taken = take_turn _ _ _ _ _ q.0 c.args.place q.1 _ q.2 c.load-whole.ensures.value c.load-whole.ensures.words c.take_out.ensures.turn in
    let left : ℕ = c.load-whole.result - c.args.size in
    let parts = c.split.ensures.turn q.0 (split_asks _ _ _ _ q.0 c.args.place q.1 c.args.size left (omega arith) taken) in
    (_, _, left_asks _ _ _ _ q.0 c.args.place q.1 c.args.size left (omega arith) taken _ c.if-left-lt-LEAST_BLOCK.false parts)

pub put_in-requires-clause-fits : goal.put_in-requires-clause-fits
put_in-requires-clause-fits g c =
    let q = c.requires.stand in
    let taken = take_turn _ _ _ _ _ q.0 c.args.place q.1 _ q.2 c.load-whole.ensures.value c.load-whole.ensures.words c.take_out.ensures.turn in
    rw (c.split.ensures.rest, c.take_out.ensures.rest, c.load-whole.ensures.rest) (turn_fits _ _ _ _ _ _ _ _ _ taken c.requires.fits)

pub returns-clause-turn : goal.returns-clause-turn
returns-clause-turn g c at n stand le =
    let size = hole_size _ _ at c.args.place n _ stand c.load-whole.ensures.value in
    let taken = take_turn _ _ _ _ _ at c.args.place n _ stand c.load-whole.ensures.value c.load-whole.ensures.words c.take_out.ensures.turn in
    let left : ℕ = c.load-whole.result - c.args.size in
    let parts = c.split.ensures.turn at (split_asks _ _ _ _ at c.args.place n c.args.size left (omega arith) taken) in
    cut_turn _ _ _ _ at c.args.place n c.args.size left (omega arith) taken _ c.if-left-lt-LEAST_BLOCK.false parts _ _ c.put_in.ensures.turn

pub returns-clause-loads : goal.returns-clause-loads
returns-clause-loads g c at n b stand le few =
    let size = hole_size _ _ at c.args.place n _ stand c.load-whole.ensures.value in
    let taken = take_turn _ _ _ _ _ at c.args.place n _ stand c.load-whole.ensures.value c.load-whole.ensures.words c.take_out.ensures.turn in
    let left : ℕ = c.load-whole.result - c.args.size in
    let parts = c.split.ensures.turn at (split_asks _ _ _ _ at c.args.place n c.args.size left (omega arith) taken) in
    omega (
      arith,
      c.load-whole.ensures.loads,
      c.split.ensures.loads,
      c.take_out.ensures.loads at b (rw (c.load-whole.ensures.words, ← size) stand) (rw (← size) few),
      c.put_in.ensures.loads _ _ b (left_asks _ _ _ _ at c.args.place n c.args.size left (omega arith) taken _ c.if-left-lt-LEAST_BLOCK.false parts)
          (left_holes _ _ _ _ at c.args.place n c.args.size left (omega arith) taken _ c.if-left-lt-LEAST_BLOCK.false parts _ few),
    )
