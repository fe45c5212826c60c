-- A longer label has a byte more at one side of its parts.
use Rattle.std.proofs.Common.{◌≡◌, ◌∙◌, ◌+◌, ◌-◌, ℕ, ap, arith, get_or, length, refl, sym}
use Rattle.std.proofs.lemmas.Bool.{both_ways}
use Rattle.list_classes.specs.Witnesses.{AreShorter, HasNone, head_with, tail_with}
use Rattle.list_classes.specs.declared.witness.TheConstants.{BYTES}
use Rattle.list_classes.proofs.WitnessLemmas.{closed_after, closed_before, each_more, none_shorter, none_touching, none_with, shorter_with, shows_none, shows_shorter}
use Rattle.list_classes.proofs.witness.TextPair.+filled.Goals.{filled-in-Missing, filled-in-Closed}
use Rattle.list_classes.proofs.witness.TextPair.+filled.Goals as goal

pub filled-returns-in-None : goal.filled-returns-in-None
filled-returns-in-None t c = λ label fills size.
    none_touching c.args.self.now c.args.head.now c.args.tail.now c.in-None.ensures label fills
    (size ∙ ap (λ n. length c.args.head.now + (n + length c.args.tail.now)) c.if-between-eq0.true)

pub filled-loop-place-preserved : goal.filled-loop-place-preserved
filled-loop-place-preserved t c =
    let pair = c.args.self.now in
    let head = c.args.head.now in
    let tail = c.args.tail.now in
    let side = c.side_of-side.result in
    let place = c.loop-place.place in
    let byte = get_or BYTES place 0 in
    let some = c.if-between-eq0.false in
    let size = length head + (c.args.between + length tail) in
    let same : length head + (c.args.between - 1 + 1 + length tail) ≡ size = omega (arith, some) in
    let none = λ (b : ℕ). HasNone pair (head_with side b head) (tail_with side b tail) size in
    let shorter = λ (b : ℕ). AreShorter pair (head_with side b head) (tail_with side b tail) size in
    elim c.match-filled_with.branch [
      | filled-in-Missing w ↦ record {
        none = each_more none place byte refl c.loop-place.invariant.none
            (shows_none pair (head_with side byte head) (tail_with side byte tail) _ size c.filled_with.result c.filled_with.ensures w.in-Missing.is same);
        closed = λ is. absurd (both_ways _ w.is_closed-is is);
      }
      | filled-in-Closed w ↦
          (let here = shows_shorter pair (head_with side byte head) (tail_with side byte tail) _ size c.filled_with.result c.filled_with.ensures w.in-Closed.is same in
          record {
            none = each_more none place byte refl c.loop-place.invariant.none
                (none_shorter pair (head_with side byte head) (tail_with side byte tail) size here);
            closed = λ is. each_more shorter place byte refl (c.loop-place.invariant.closed (sym w.is_closed-is ∙ is)) here;
          })
    ]

pub filled-returns-then-is_closed : goal.filled-returns-then-is_closed
filled-returns-then-is_closed t c =
    let past = c.loop-place-test.false in
    let some = c.if-between-eq0.false in
    shorter_with c.side_of-side.result c.args.self.now c.args.head.now c.args.tail.now c.args.between (omega (arith, some))
    (λ k below. c.loop-place.invariant.closed c.if-is_closed.true k (omega (arith, past, below)))

pub filled-returns-else-is_closed : goal.filled-returns-else-is_closed
filled-returns-else-is_closed t c =
    let past = c.loop-place-test.false in
    let some = c.if-between-eq0.false in
    none_with c.side_of-side.result c.args.self.now c.args.head.now c.args.tail.now c.args.between (omega (arith, some))
    (λ k below. c.loop-place.invariant.none k (omega (arith, past, below)))

pub filled_after-returns-then-goes_below : goal.filled_after-returns-then-goes_below
filled_after-returns-then-goes_below t c =
    closed_after c.args.self.now c.args.head.now c.args.tail.now _ c.args.byte c.as_slice.result.now (c.as_slice.ensures.value ∙ c.in-Some.ensures)
    (sym c.goes_below.ensures ∙ c.if-goes_below.true)

pub filled_before-returns-then-goes_below : goal.filled_before-returns-then-goes_below
filled_before-returns-then-goes_below t c =
    closed_before c.args.self.now c.args.head.now c.args.tail.now _ c.args.byte c.as_slice.result.now (c.as_slice.ensures.value ∙ c.in-Some.ensures)
    (sym c.goes_below.ensures ∙ c.if-goes_below.true)
