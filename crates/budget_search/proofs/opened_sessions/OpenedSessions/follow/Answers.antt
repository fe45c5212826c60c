-- Line by line.
use Rattle.std.proofs.Common.{◌+◌, drop, sym, subst, refl}
use Rattle.budget_search.specs.ReachedSessions.{followed, sessions_of, Reach}
use Rattle.budget_search.proofs.ItemLemmas.{next_item, no_item}
use Rattle.budget_search.proofs.opened_sessions.OpenedSessions.follow.Goals as goal

pub returns-then-not-branch-clause-sessions : goal.returns-then-not-branch-clause-sessions
returns-then-not-branch-clause-sessions g c =
    let steps = c.args.steps.now in
    let place = c.loop-place.place in
    let item = c.index-steps-place.result in
    let end = sessions_of c.goes_on.new.self in
    c.loop-place.invariant.left end
    (subst (λ lines. Reach lines place (followed c.loop-place.client (sessions_of c.loop-place.self)) end) (sym (next_item steps place item c.loop-place-test.true c.index-steps-place.is))
    (c.in_ok-goes_on.ensures.ends c.if-not-branch.true (drop (place + 1) steps)))

pub loop-place-preserved : goal.loop-place-preserved
loop-place-preserved g c = record {
  left = λ end reach.
      let steps = c.args.steps.now in
      let place = c.loop-place.place in
      let item = c.index-steps-place.result in
      c.loop-place.invariant.left end
      (subst (λ lines. Reach lines place (followed c.loop-place.client (sessions_of c.loop-place.self)) end) (sym (next_item steps place item c.loop-place-test.true c.index-steps-place.is))
      (c.in_ok-goes_on.ensures.on c.if-not-branch.false (drop (place + 1) steps) end reach));
}

pub returns-clause-sessions : goal.returns-clause-sessions
returns-clause-sessions g c =
    let steps = c.args.steps.now in
    let end = sessions_of c.loop-place.self in
    c.loop-place.invariant.left end
    (subst (λ lines. Reach lines c.loop-place.place (followed c.loop-place.client end) end) (sym (no_item steps c.loop-place.place c.loop-place-test.false)) refl)
