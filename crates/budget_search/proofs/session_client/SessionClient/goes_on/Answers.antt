-- By the call of the line.
use Rattle.std.proofs.lemmas.Bool.Decides.{nat_tests}
use Rattle.std.proofs.Common.{arith, ◌≡◌, refl, sym, ap, ◌∙◌, subst}
use Rattle.std.specs.Prelude.{Some}
use Rattle.core_calls.specs.Call.{model_call}
use Rattle.budget_meter.specs.Needs.{amounts_of}
use Rattle.budget_search.specs.OpenedSessions.{HasLeft, sends, HasDue}
use Rattle.budget_search.specs.SessionLines.{HasSessionLeft, lines_calling}
use Rattle.budget_search.specs.Steps.{mark_of}
use Rattle.budget_search.proofs.SessionLemmas.{each_ok, each_on}
use Rattle.budget_search.proofs.session_client.SessionClient.goes_on.Goals as goal
use Rattle.std.proofs.lemmas.Result.{IfErr-weaker}
use Rattle.budget_search.proofs.FaultLemmas.{passed_on}

pub returns-in-CallSession-clause-left : goal.returns-in-CallSession-clause-left
returns-in-CallSession-clause-left g c =
    each_ok c.ask.result
    (λ on follows is sent rest session donation before.
    follows is sent rest session donation c.in-CallSession.selector
    (subst (λ call. HasLeft c.args.self.now.core c.args.self.now.client c.args.run.now.heard sent (sends c.args.step.now.is_left_out call rest) session donation)
    (sym (ap (λ x. Some (model_call x)) (sym c.in-CallSession.is) ∙ c.in-Some.ensures.call)) before))
    c.ask.ensures.left

pub returns-in-CallSession-clause-ends : goal.returns-in-CallSession-clause-ends
returns-in-CallSession-clause-ends g c =
    each_ok c.ask.result
    (λ on follows is sent rest session donation before.
    follows is sent rest session donation c.in-CallSession.selector
    (subst (λ call. HasLeft c.args.self.now.core c.args.self.now.client c.args.run.now.heard sent (sends c.args.step.now.is_left_out call rest) session donation)
    (sym (ap (λ x. Some (model_call x)) (sym c.in-CallSession.is) ∙ c.in-Some.ensures.call)) before))
    c.ask.ensures.ends

pub returns-in_ok-raise-in-Upgrade-clause-left : goal.returns-in_ok-raise-in-Upgrade-clause-left
returns-in_ok-raise-in-Upgrade-clause-left g c = λ _ sent rest session donation before.
    c.in_ok-raise-in-Upgrade.ensures.left sent rest session donation c.in-Upgrade.selector
    (subst (λ call. HasLeft c.args.self.now.core c.args.self.now.client c.args.run.now.heard sent (sends c.args.step.now.is_left_out call rest) session donation)
    (sym (ap (λ x. Some (model_call x)) (sym c.in-Upgrade.is) ∙ c.in-Some.ensures.call)) before)

pub returns-in_default-call-clause-left : goal.returns-in_default-call-clause-left
returns-in_default-call-clause-left g c = λ _ sent rest session donation before.
    let left = c.args.step.now.is_left_out in
    let other : sends left (Some (model_call c.in-Some.call)) rest ≡ rest = grind (arith, nat_tests, c.in_default-call.not-Upgrade, c.in_default-call.not-CallSession) in
    subst (λ each. HasLeft c.args.self.now.core c.args.self.now.client c.args.run.now.heard sent each session donation)
    (ap (λ call. sends left call rest) (sym c.in-Some.ensures.call) ∙ other) before

pub returns-in-CallSession-clause-due : goal.returns-in-CallSession-clause-due
returns-in-CallSession-clause-due g c =
    each_on c.ask.result
    (λ follows due rest before.
    follows due rest c.in-CallSession.selector
    (subst (λ call. HasDue c.args.self.now.core c.args.self.now.client due (sends c.args.step.now.is_left_out call rest))
    (sym (ap (λ x. Some (model_call x)) (sym c.in-CallSession.is) ∙ c.in-Some.ensures.call)) before))
    c.ask.ensures.due

pub returns-in-CallSession-clause-lacks : goal.returns-in-CallSession-clause-lacks
returns-in-CallSession-clause-lacks g c =
    IfErr-weaker c.ask.result _ _
    (λ fault lacks other due rest before.
    lacks other due rest c.in-CallSession.selector
    (subst (λ call. HasDue c.args.self.now.core c.args.self.now.client due (sends c.args.step.now.is_left_out call rest))
    (sym (ap (λ x. Some (model_call x)) (sym c.in-CallSession.is) ∙ c.in-Some.ensures.call)) before))
    c.ask.ensures.lacks

pub returns-in_ok-raise-in-Upgrade-clause-due : goal.returns-in_ok-raise-in-Upgrade-clause-due
returns-in_ok-raise-in-Upgrade-clause-due g c = λ due rest before.
    c.in_ok-raise-in-Upgrade.ensures.due due rest c.in-Upgrade.selector
    (subst (λ call. HasDue c.args.self.now.core c.args.self.now.client due (sends c.args.step.now.is_left_out call rest))
    (sym (ap (λ x. Some (model_call x)) (sym c.in-Upgrade.is) ∙ c.in-Some.ensures.call)) before)

pub returns-in_err-raise-in-Upgrade-clause-lacks : goal.returns-in_err-raise-in-Upgrade-clause-lacks
returns-in_err-raise-in-Upgrade-clause-lacks g c =
    passed_on _ _ c.from_residual.result c.from_residual.ensures.1
    (λ other due rest before.
    c.in_err-raise-in-Upgrade.ensures.lacks other due rest c.in-Upgrade.selector
    (subst (λ call. HasDue c.args.self.now.core c.args.self.now.client due (sends c.args.step.now.is_left_out call rest))
    (sym (ap (λ x. Some (model_call x)) (sym c.in-Upgrade.is) ∙ c.in-Some.ensures.call)) before))

pub returns-in_default-call-clause-due : goal.returns-in_default-call-clause-due
returns-in_default-call-clause-due g c = λ due rest before.
    let left = c.args.step.now.is_left_out in
    let other : sends left (Some (model_call c.in-Some.call)) rest ≡ rest = grind (arith, nat_tests, c.in_default-call.not-Upgrade, c.in_default-call.not-CallSession) in
    subst (λ each. HasDue c.args.self.now.core c.args.self.now.client due each)
    (ap (λ call. sends left call rest) (sym c.in-Some.ensures.call) ∙ other) before

pub returns-in-CallSession-clause-later : goal.returns-in-CallSession-clause-later
returns-in-CallSession-clause-later g c =
    each_ok c.ask.result
    (λ on follows is session donation rest whole before.
    follows is session donation rest whole c.in-CallSession.selector
    (subst (λ call. HasSessionLeft c.args.self.now.core c.args.self.now.client c.args.run.now.heard session donation c.args.run.now.trial.left_out.items
    (lines_calling (amounts_of c.args.run.now.trial.meter.start) (mark_of c.args.step.now) call rest) whole)
    (sym (ap (λ x. Some (model_call x)) (sym c.in-CallSession.is) ∙ c.in-Some.ensures.call)) before))
    c.ask.ensures.later

pub returns-in-CallSession-clause-lines : goal.returns-in-CallSession-clause-lines
returns-in-CallSession-clause-lines g c =
    each_ok c.ask.result
    (λ on follows is session donation rest whole before.
    follows is session donation rest whole c.in-CallSession.selector
    (subst (λ call. HasSessionLeft c.args.self.now.core c.args.self.now.client c.args.run.now.heard session donation c.args.run.now.trial.left_out.items
    (lines_calling (amounts_of c.args.run.now.trial.meter.start) (mark_of c.args.step.now) call rest) whole)
    (sym (ap (λ x. Some (model_call x)) (sym c.in-CallSession.is) ∙ c.in-Some.ensures.call)) before))
    c.ask.ensures.lines

pub returns-in_ok-raise-in-Upgrade-clause-later : goal.returns-in_ok-raise-in-Upgrade-clause-later
returns-in_ok-raise-in-Upgrade-clause-later g c = λ _ session donation rest whole before.
    c.in_ok-raise-in-Upgrade.ensures.later session donation rest whole (mark_of c.args.step.now) c.in-Upgrade.selector refl
    (subst (λ call. HasSessionLeft c.args.self.now.core c.args.self.now.client c.args.run.now.heard session donation c.args.run.now.trial.left_out.items
    (lines_calling (amounts_of c.args.run.now.trial.meter.start) (mark_of c.args.step.now) call rest) whole)
    (sym (ap (λ x. Some (model_call x)) (sym c.in-Upgrade.is) ∙ c.in-Some.ensures.call)) before)

pub returns-in_default-call-clause-later : goal.returns-in_default-call-clause-later
returns-in_default-call-clause-later g c = λ _ session donation rest whole before.
    let start = amounts_of c.args.run.now.trial.meter.start in
    let mark = mark_of c.args.step.now in
    let other : lines_calling start mark (Some (model_call c.in-Some.call)) rest ≡ rest
    = grind (arith, nat_tests, c.in_default-call.not-Upgrade, c.in_default-call.not-CallSession) in
    subst (λ each. HasSessionLeft c.args.self.now.core c.args.self.now.client c.args.run.now.heard session donation c.args.run.now.trial.left_out.items each whole)
    (ap (λ call. lines_calling start mark call rest) (sym c.in-Some.ensures.call) ∙ other) before
