-- The line at the place, or none.
use Rattle.std.proofs.lemmas.Bool.Decides.{nat_tests}
use Rattle.std.proofs.lemmas.Option.{slice_get_past, slice_get_read}
use Rattle.std.proofs.Common.{arith, ◌≡◌, None, refl, subst}
use Rattle.std.specs.List.{slice_get}
use Rattle.budget_meter.specs.Needs.{amounts_of}
use Rattle.budget_search.specs.OpenedSessions.{HasLeft, sent_by, HasDue}
use Rattle.budget_search.specs.SessionLines.{HasSessionLeft, lines_step}
use Rattle.budget_search.proofs.SessionLemmas.{each_ok, each_on}
use Rattle.budget_search.proofs.session_client.SessionClient.reach.Goals as goal
use Rattle.std.proofs.lemmas.Result.{IfErr-weaker}

pub returns-in-Some-clause-left : goal.returns-in-Some-clause-left
returns-in-Some-clause-left g c =
    each_ok c.goes_on.result
    (λ on follows is sent rest session donation before.
    follows is sent rest session donation
    (subst (λ o. HasLeft c.args.self.now.core c.args.self.now.client c.args.run.now.heard sent (sent_by o rest) session donation)
    (slice_get_read c.args.steps.now _ c.args.place c.in-Some.step.now refl c.in-Some.ensures.lookup.3.0 c.in-Some.ensures.lookup.1) before))
    c.goes_on.ensures.left

pub returns-in-Some-clause-ends : goal.returns-in-Some-clause-ends
returns-in-Some-clause-ends g c =
    each_ok c.goes_on.result
    (λ on follows is sent rest session donation before.
    follows is sent rest session donation
    (subst (λ o. HasLeft c.args.self.now.core c.args.self.now.client c.args.run.now.heard sent (sent_by o rest) session donation)
    (slice_get_read c.args.steps.now _ c.args.place c.in-Some.step.now refl c.in-Some.ensures.lookup.3.0 c.in-Some.ensures.lookup.1) before))
    c.goes_on.ensures.ends

pub returns-in-None-clause-left : goal.returns-in-None-clause-left
returns-in-None-clause-left g c = λ _ sent rest session donation before.
    let none : slice_get c.args.steps.now c.args.place ≡ None = grind (arith, nat_tests, slice_get_past, c.in-None.ensures.lookup) in
    subst (λ o. HasLeft c.args.self.now.core c.args.self.now.client c.args.run.now.heard sent (sent_by o rest) session donation) none before

pub returns-in-Some-clause-due : goal.returns-in-Some-clause-due
returns-in-Some-clause-due g c =
    each_on c.goes_on.result
    (λ follows due rest before.
    follows due rest
    (subst (λ o. HasDue c.args.self.now.core c.args.self.now.client due (sent_by o rest))
    (slice_get_read c.args.steps.now _ c.args.place c.in-Some.step.now refl c.in-Some.ensures.lookup.3.0 c.in-Some.ensures.lookup.1) before))
    c.goes_on.ensures.due

pub returns-in-Some-clause-lacks : goal.returns-in-Some-clause-lacks
returns-in-Some-clause-lacks g c =
    IfErr-weaker c.goes_on.result _ _
    (λ fault lacks other due rest before.
    lacks other due rest
    (subst (λ o. HasDue c.args.self.now.core c.args.self.now.client due (sent_by o rest))
    (slice_get_read c.args.steps.now _ c.args.place c.in-Some.step.now refl c.in-Some.ensures.lookup.3.0 c.in-Some.ensures.lookup.1) before))
    c.goes_on.ensures.lacks

pub returns-in-None-clause-due : goal.returns-in-None-clause-due
returns-in-None-clause-due g c = λ due rest before.
    let none : slice_get c.args.steps.now c.args.place ≡ None = grind (arith, nat_tests, slice_get_past, c.in-None.ensures.lookup) in
    subst (λ o. HasDue c.args.self.now.core c.args.self.now.client due (sent_by o rest)) none before

pub returns-in-Some-clause-later : goal.returns-in-Some-clause-later
returns-in-Some-clause-later g c =
    each_ok c.goes_on.result
    (λ on follows is session donation rest whole before.
    follows is session donation rest whole
    (subst (λ o. HasSessionLeft c.args.self.now.core c.args.self.now.client c.args.run.now.heard session donation c.args.run.now.trial.left_out.items
    (lines_step (amounts_of c.args.run.now.trial.meter.start) o rest) whole)
    (slice_get_read c.args.steps.now _ c.args.place c.in-Some.step.now refl c.in-Some.ensures.lookup.3.0 c.in-Some.ensures.lookup.1) before))
    c.goes_on.ensures.later

pub returns-in-Some-clause-lines : goal.returns-in-Some-clause-lines
returns-in-Some-clause-lines g c =
    each_ok c.goes_on.result
    (λ on follows is session donation rest whole before.
    follows is session donation rest whole
    (subst (λ o. HasSessionLeft c.args.self.now.core c.args.self.now.client c.args.run.now.heard session donation c.args.run.now.trial.left_out.items
    (lines_step (amounts_of c.args.run.now.trial.meter.start) o rest) whole)
    (slice_get_read c.args.steps.now _ c.args.place c.in-Some.step.now refl c.in-Some.ensures.lookup.3.0 c.in-Some.ensures.lookup.1) before))
    c.goes_on.ensures.lines

pub returns-in-None-clause-later : goal.returns-in-None-clause-later
returns-in-None-clause-later g c = λ _ session donation rest whole before.
    let none : slice_get c.args.steps.now c.args.place ≡ None = grind (arith, nat_tests, slice_get_past, c.in-None.ensures.lookup) in
    subst (λ o. HasSessionLeft c.args.self.now.core c.args.self.now.client c.args.run.now.heard session donation c.args.run.now.trial.left_out.items
    (lines_step (amounts_of c.args.run.now.trial.meter.start) o rest) whole) none before
