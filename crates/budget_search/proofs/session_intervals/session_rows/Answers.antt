-- By the stretches of runs that end with their first want.
use Rattle.std.proofs.Common.{rules, ap, refl, ◌∙◌, arith}
use Rattle.std.specs.Prelude.{slice_get}
use Rattle.budget_meter.proofs.ReachedLemmas.{runs_exact}
use Rattle.budget_meter.specs.Needs.{amounts_of}
use Rattle.budget_meter.specs.SessionRuns.{opened_needs, opened_in_want}
use Rattle.budget_search.proofs.FaultLemmas.{passed_on}
use Rattle.budget_search.proofs.SafeLemmas.{has_least, has_safe}
use Rattle.budget_search.specs.OpenedSessions.{opened_with, sent_at, suffices_of, IsReadyFor}
use Rattle.budget_search.specs.SessionLines.{session_lines}
use Rattle.budget_search.proofs.session_intervals.session_rows.Goals as goal

pub returns-clause-exact : goal.returns-clause-exact
returns-clause-exact g c = λ session ready opens donation few up.
    let sent = sent_at c.args.reached.steps.now c.args.reached.opened.now.steps.items in
    c.in_ok-found.ensures.exact (opened_needs sent session) (opened_in_want sent session)
    (record { ready = ready; session = session; opens = opens; needs = refl; want = refl }) donation up
    ∙ runs_exact sent session c.args.most.caps c.args.most.ram donation few up

pub returns-clause-least : goal.returns-clause-least
returns-clause-least g c = λ session ready opens.
    let sent = sent_at c.args.reached.steps.now c.args.reached.opened.now.steps.items in
    has_least (suffices_of sent session) (amounts_of c.args.most) c.in_ok-found.found.rows.items
    (c.in_ok-found.ensures.ordered (opened_needs sent session) (opened_in_want sent session) (record { ready = ready; session = session; opens = opens; needs = refl; want = refl }))
    (returns-clause-exact g c session ready opens)

pub returns-clause-safe : goal.returns-clause-safe
returns-clause-safe g c = λ session ready opens.
    let sent = sent_at c.args.reached.steps.now c.args.reached.opened.now.steps.items in
    has_safe (suffices_of sent session) (amounts_of c.args.most) c.in_ok-found.found.rows.items
    (c.in_ok-found.ensures.ordered (opened_needs sent session) (opened_in_want sent session) (record { ready = ready; session = session; opens = opens; needs = refl; want = refl }))
    (returns-clause-exact g c session ready opens)

pub returns-clause-lines : goal.returns-clause-lines
returns-clause-lines g c = λ session ready opens.
    c.in_ok-found.ensures.lines (session_lines c.args.reached.steps.now c.args.reached.opened.now.step c.args.reached.opened.now.steps.items session)
    (ready, (session, (opens, refl)))

pub returns-clause-ready : goal.returns-clause-ready
returns-clause-ready g c = λ entry whole session before opens.
    let sent = sent_at c.args.reached.steps.now c.args.reached.opened.now.steps.items in
    let runs =
    c.in_ok-found.ensures.still (opened_needs sent session) (opened_in_want sent session)
    (record {
      ready = before.ready;
      session = session;
      opens = ap (λ e. opened_with e (slice_get c.args.reached.steps.now c.args.reached.opened.now.step)) before.same ∙ opens;
      needs = refl;
      want = refl;
    }) in
    let there : IsReadyFor entry whole c.of.new.trials.client.now.core c.of.new.trials.client.now.client =
    record { ready = runs.ready; same = ap (λ r. r.0.0) c.in_ok-found.ensures.rest ∙ before.same; whole_is = ap (λ r. r.0.1) c.in_ok-found.ensures.rest ∙ before.whole_is } in
    search (rules, there, c.drop-trials-2.ensures)

pub returns-in_err-found-clause-fault : goal.returns-in_err-found-clause-fault
returns-in_err-found-clause-fault g c =
    let sent = sent_at c.args.reached.steps.now c.args.reached.opened.now.steps.items in
    passed_on _ _ c.from_residual.result c.from_residual.ensures.1
    (λ other session ready opens.
    (c.in_err-found.ensures.fault other (opened_needs sent session) (opened_in_want sent session)
    (record { ready = ready; session = session; opens = opens; needs = refl; want = refl })).its.fault_is)

pub returns-in_err-found-clause-lacks : goal.returns-in_err-found-clause-lacks
returns-in_err-found-clause-lacks g c =
    let sent = sent_at c.args.reached.steps.now c.args.reached.opened.now.steps.items in
    passed_on _ _ c.from_residual.result c.from_residual.ensures.1
    (λ other few session ready opens can.
    let fails =
    c.in_err-found.ensures.fault other (opened_needs sent session) (opened_in_want sent session)
    (record { ready = ready; session = session; opens = opens; needs = refl; want = refl }) in
    fails.its.lacks few (record { ram_fits = omega (arith, can.ram_fits, fails.within); caps_fit = can.caps_fit }))
