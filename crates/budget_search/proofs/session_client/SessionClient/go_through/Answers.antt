-- Line by line.
use Rattle.std.proofs.Common.{◌+◌, drop, get_or, ap, ◌∙◌, subst, sym}
use Rattle.std.specs.Prelude.{is_some, slice_get}
use Rattle.budget_meter.specs.Needs.{amounts_of}
use Rattle.budget_search.specs.OpenedSessions.{HasLeft, sent_at, HasDue}
use Rattle.budget_search.specs.SessionLines.{HasSessionLeft, lines_at, lines_step}
use Rattle.budget_search.proofs.SessionLemmas.{next_sent, all_done, none_sent}
use Rattle.budget_search.proofs.SessionLineLemmas.{next_lines, no_more_lines}
use Rattle.budget_search.proofs.session_client.SessionClient.go_through.Goals as goal
use Rattle.own_model.specs.Account.{Account, Fits}
use Rattle.budget_search.proofs.FaultLemmas.{passed_on}

pub returns-then-not-branch-clause-ended : goal.returns-then-not-branch-clause-ended
returns-then-not-branch-clause-ended g c = λ sent session donation before.
    let now = c.loop-place.self in
    let steps = c.args.steps.now in
    let places = c.args.places.now in
    let i = c.loop-place.place-index in
    c.in_ok-reach.ensures.ends c.if-not-branch.true sent (sent_at steps (drop (i + 1) places)) session donation
    (subst (λ rest. HasLeft now.core now.client c.loop-place.run.heard sent rest session donation) (next_sent steps places i c.loop-place-test.true)
    (c.loop-place.invariant.left sent session donation before))

pub loop-place-preserved : goal.loop-place-preserved
loop-place-preserved g c =
    let now = c.loop-place.self in
    let steps = c.args.steps.now in
    let places = c.args.places.now in
    let i = c.loop-place.place-index in
    record {
      none = c.in_ok-reach.ensures.on c.if-not-branch.false;
      same = c.reach.ensures.same ∙ c.loop-place.invariant.same;
      entries = c.reach.ensures.entries ∙ c.loop-place.invariant.entries;
      whole = c.reach.ensures.whole ∙ c.loop-place.invariant.whole;
      due = λ due before.
          c.in_ok-reach.ensures.due due (sent_at steps (drop (i + 1) places))
          (subst (λ rest. HasDue now.core now.client due rest) (next_sent steps places i c.loop-place-test.true) (c.loop-place.invariant.due due before));
      left = λ sent session donation before.
          c.in_ok-reach.ensures.left c.if-not-branch.false sent (sent_at steps (drop (i + 1) places)) session donation
          (subst (λ rest. HasLeft now.core now.client c.loop-place.run.heard sent rest session donation) (next_sent steps places i c.loop-place-test.true)
          (c.loop-place.invariant.left sent session donation before));
      meter = c.reach.ensures.meter ∙ c.loop-place.invariant.meter;
      lines = λ session donation whole before.
          let start = amounts_of c.args.run.now.trial.meter.start in
          c.in_ok-reach.ensures.later c.if-not-branch.false session donation (lines_at start steps (drop (i + 1) places)) whole
          (subst
          (λ rest. HasSessionLeft now.core now.client c.loop-place.run.heard session donation c.loop-place.run.trial.left_out.items rest whole)
          (next_lines start steps places i c.loop-place-test.true
          ∙ ap (λ meter. lines_step (amounts_of meter.start) (slice_get steps (get_or places i 0)) (lines_at start steps (drop (i + 1) places))) (sym c.loop-place.invariant.meter))
          (c.loop-place.invariant.lines session donation whole before));
    }

pub returns-clause-ended : goal.returns-clause-ended
returns-clause-ended g c = λ sent session donation before.
    let now = c.loop-place.self in
    let steps = c.args.steps.now in
    let places = c.args.places.now in
    all_done now.core now.client c.loop-place.run.heard sent session donation (is_some c.loop-place.run.trial.refused) (ap is_some c.loop-place.invariant.none)
    (subst (λ rest. HasLeft now.core now.client c.loop-place.run.heard sent rest session donation) (none_sent steps places c.loop-place.place-index c.loop-place-test.false)
    (c.loop-place.invariant.left sent session donation before))

pub returns-in_err-reach-clause-lacks : goal.returns-in_err-reach-clause-lacks
returns-in_err-reach-clause-lacks g c =
    let now = c.loop-place.self in
    let steps = c.args.steps.now in
    let places = c.args.places.now in
    let i = c.loop-place.place-index in
    passed_on _ _ c.from_residual.result c.from_residual.ensures.1
    (λ other due before can.
    c.in_err-reach.ensures.lacks other due (sent_at steps (drop (i + 1) places))
    (subst (λ rest. HasDue now.core now.client due rest) (next_sent steps places i c.loop-place-test.true) (c.loop-place.invariant.due due before))
    (subst (λ (account : Account). Fits account due.ram due.caps) (sym c.loop-place.invariant.whole) can))

pub returns-then-not-branch-clause-lines : goal.returns-then-not-branch-clause-lines
returns-then-not-branch-clause-lines g c = λ session donation whole before.
    let now = c.loop-place.self in
    let steps = c.args.steps.now in
    let places = c.args.places.now in
    let i = c.loop-place.place-index in
    let start = amounts_of c.args.run.now.trial.meter.start in
    c.in_ok-reach.ensures.lines c.if-not-branch.true session donation (lines_at start steps (drop (i + 1) places)) whole
    (subst
    (λ rest. HasSessionLeft now.core now.client c.loop-place.run.heard session donation c.loop-place.run.trial.left_out.items rest whole)
    (next_lines start steps places i c.loop-place-test.true
    ∙ ap (λ meter. lines_step (amounts_of meter.start) (slice_get steps (get_or places i 0)) (lines_at start steps (drop (i + 1) places))) (sym c.loop-place.invariant.meter))
    (c.loop-place.invariant.lines session donation whole before))

pub returns-clause-lines : goal.returns-clause-lines
returns-clause-lines g c = λ session donation whole before.
    let now = c.loop-place.self in
    ap (λ refused. record { left_out = c.loop-place.run.trial.left_out.items; refused = refused }) c.loop-place.invariant.none
    ∙ no_more_lines now.core now.client c.loop-place.run.heard session donation (amounts_of c.args.run.now.trial.meter.start) c.args.steps.now c.args.places.now c.loop-place.place-index
    c.loop-place.run.trial.left_out.items whole c.loop-place-test.false (c.loop-place.invariant.lines session donation whole before)
