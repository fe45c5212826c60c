-- What was unfolded goes on with what is left.
use Rattle.std.proofs.Common.{rules, ◌≡◌, ◌∙◌, ◌+◌, ◌-◌, ℕ, List, [], Err, sym, ap, drop, get_or, take, length}
use Rattle.std.specs.Borrow.{Bor}
use Rattle.line_rounds.specs.Unfolding.{lines_from, within}
use Rattle.line_rounds.specs.Views.{head_view, made_of, texts}
use Rattle.line_rounds.proofs.RoundLemmas.{count_fails, line_at, line_fails, lines_end, lines_next, lines_within, marks_at, next_inside, round_next}
use Rattle.line_rounds.proofs.unfolding.Unfolding.+rounds.Goals as goal

pub put_each-loop-k-preserved : goal.put_each-loop-k-preserved
put_each-loop-k-preserved t c =
    round_next (within c.args.deep) c.args.place (head_view c.args.head) c.loop-k.k _ _ _ _ (texts c.args.body.now) c.loop-k-test.true
    (marks_at (made_of c.loop-k.self) (made_of c.put_mark.new.self) _ (head_view c.args.head) c.args.place.line c.size_of-size.result c.loop-k.k
    (texts c.args.body.now) c.in_ok-put_mark.ensures c.in_ok-mark.ensures c.size_of-size.ensures.value) c.in_ok-put_lines.ensures c.in_ok-count_round.ensures
    ∙ c.loop-k.invariant

pub put_each-returns-in_err-count_round : goal.put_each-returns-in_err-count_round
put_each-returns-in_err-count_round t c =
    let tells : c.from_residual-in_err-count_round.result ≡ Err c.in_err-count_round.field-0.0 = search rules in
    let whole = sym c.loop-k.invariant in
    rw (tells, whole)
    (count_fails Unit Unit c.in_err-count_round.field-0.0 (within c.args.deep) c.args.place (head_view c.args.head) c.loop-k.k (made_of c.loop-k.self)
    (made_of c.put_mark.new.self) (made_of c.put_lines.new.self) (made_of c.count_round.new.self) (made_of c.count_round.new.self)
    (texts c.args.body.now) c.loop-k-test.true
    (marks_at (made_of c.loop-k.self) (made_of c.put_mark.new.self) _ (head_view c.args.head) c.args.place.line c.size_of-size.result c.loop-k.k
    (texts c.args.body.now) c.in_ok-put_mark.ensures c.in_ok-mark.ensures c.size_of-size.ensures.value) c.in_ok-put_lines.ensures c.in_err-count_round.ensures)

pub put_lines-returns-in_err-at : goal.put_lines-returns-in_err-at
put_lines-returns-in_err-at t c =
    let lines = c.args.lines.now in
    let empty : Bor (List ℕ) = record { ref_ptr = (0, 0); now = [] } in
    let tells : c.from_residual.result ≡ Err c.in_err-at.field-0.0 = search rules in
    let inner = within (c.args.deep - 1) in
    let here = line_at lines c.loop-at.at empty c.loop-at-test.true in
    let whole =
    lines_within c.args.deep c.if-deep-eq0.false c.args.number (made_of c.args.self.now) (texts c.args.lines.now)
    ∙ sym c.loop-at.invariant.0
    ∙ ap (λ left. lines_from inner 0 (c.args.number + c.loop-at.at) (made_of c.loop-at.self) (texts left)) here in
    rw (tells, whole)
    (line_fails ℕ Unit c.in_err-at.field-0.0 inner (c.args.number + c.loop-at.at) (made_of c.loop-at.self) (made_of c.put_next.new.self)
    (made_of c.put_next.new.self) (get_or lines c.loop-at.at empty).now (texts (take (length lines - (c.loop-at.at + 1)) (drop (c.loop-at.at + 1) lines)))
    c.in_err-at.ensures.made)

pub put_lines-loop-at-preserved : goal.put_lines-loop-at-preserved
put_lines-loop-at-preserved t c =
    let inner = within (c.args.deep - 1) in
    let here = line_at c.args.lines.now c.loop-at.at (record { ref_ptr = (0, 0); now = [] }) c.loop-at-test.true in (
      lines_next inner c.args.number c.loop-at.at c.in_ok-at.field-0 _ _ c.args.lines.now _ _ here c.in_ok-at.ensures.made c.in_ok-at.ensures.size
          c.in_ok-at.ensures.inside
          ∙ c.loop-at.invariant.0,
      next_inside c.loop-at.at c.in_ok-at.field-0 c.args.lines.now _ _ c.loop-at-test.true here c.in_ok-at.ensures.inside,
    )

pub put_lines-returns : goal.put_lines-returns
put_lines-returns t c =
    lines_within c.args.deep c.if-deep-eq0.false c.args.number (made_of c.args.self.now) (texts c.args.lines.now)
    ∙ sym c.loop-at.invariant.0
    ∙ lines_end (within (c.args.deep - 1)) c.args.number c.loop-at.at (made_of c.loop-at.self) c.args.lines.now c.loop-at-test.false
