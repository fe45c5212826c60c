-- A request is answered as the session's server does.
use Rattle.std.proofs.Common.{true, cond, ◌∷◌, ◌++◌, sym, ap, ◌∙◌, subst, arith, ◌≡◌, None}
use Rattle.std.specs.Prelude.{Some}
use Rattle.std.specs.Option.{option_map}
use Rattle.own_model.specs.Call.Call.{CallSession}
use Rattle.budget_meter.specs.SessionRuns.Sent.{Asks}
use Rattle.core_calls.specs.Quotas.{quotas_account}
use Rattle.budget_meter.specs.Needs.{amounts_of}
use Rattle.budget_search.specs.OpenedSessions.{HasEnded, HasLeft, sends, HasDue}
use Rattle.budget_search.specs.SessionLines.{HasSessionLeft, lines_asking, lines_without, session_shortage}
use Rattle.budget_search.proofs.HeldLemmas.{named_of}
use Rattle.budget_search.specs.Steps.{mark_of}
use Rattle.budget_search.proofs.SessionLemmas.{account_told, asked_on, asked_end, none_told}
use Rattle.budget_search.proofs.SessionLineLemmas.{heard_at, held_account, lines_end, lines_later, lines_skipped}
use Rattle.budget_search.proofs.session_client.SessionClient.ask.Goals as goal
use Rattle.budget_search.proofs.DueLemmas.{due_asked, still_named}

pub returns-then-branch-clause-ends : goal.returns-then-branch-clause-ends
returns-then-branch-clause-ends g c = λ _ sent rest session donation selector before.
    let world = c.args.self.now.core in
    let client = c.args.self.now.client in
    let heard = c.args.run.now.heard in
    let asking = subst (λ b. HasLeft world client heard sent (sends b (Some (CallSession selector c.args.request.now)) rest) session donation) c.if-step.false before in
    let entry = asking.has.entry in
    subst (λ p. HasEnded c.step.new.self.core p sent session donation true c.follow.new.self.meter) (sym c.step.ensures.same)
    (asked_end world c.step.new.self.core client selector c.args.request.now c.answer.result.text.now (c.answer.ensures ∙ c.step.ensures.answered entry) (c.step.ensures.stepped entry) c.in-Some.after
    (account_told c.step.new.self.core c.step.new.self.client client world.entries c.account-2.result c.in-Some.after c.step.ensures.same c.step.ensures.entries entry c.in-Some.is c.account-2.ensures)
    sent rest session donation heard c.follow.new.self asking
    (λ left told. c.in_ok-follow.ensures.end c.if-branch.true sent rest donation session asking.now (named_of asking.buffer) left told))

pub returns-clause-left : goal.returns-clause-left
returns-clause-left g c = λ _ sent rest session donation selector before.
    let world = c.args.self.now.core in
    let client = c.args.self.now.client in
    let heard = c.args.run.now.heard in
    let asking = subst (λ b. HasLeft world client heard sent (sends b (Some (CallSession selector c.args.request.now)) rest) session donation) c.if-step.false before in
    let entry = asking.has.entry in
    subst (λ p. HasLeft c.step.new.self.core p c.follow.new.self sent rest session donation) (sym c.step.ensures.same)
    (asked_on world c.step.new.self.core client selector c.args.request.now c.answer.result.text.now (c.answer.ensures ∙ c.step.ensures.answered entry) (c.step.ensures.stepped entry) c.in-Some.after
    (account_told c.step.new.self.core c.step.new.self.client client world.entries c.account-2.result c.in-Some.after c.step.ensures.same c.step.ensures.entries entry c.in-Some.is c.account-2.ensures)
    sent rest session donation heard c.follow.new.self asking
    (λ left told. c.in_ok-follow.ensures.on c.if-branch.false sent rest donation session asking.now (named_of asking.buffer) left told))

pub returns-then-branch-clause-due : goal.returns-then-branch-clause-due
returns-then-branch-clause-due g c = λ due rest selector before.
    let world = c.args.self.now.core in
    let client = c.args.self.now.client in
    let asking = subst (λ b. HasDue world client due (sends b (Some (CallSession selector c.args.request.now)) rest)) c.if-step.false before in
    let entry = asking.has.entry in
    subst (λ p. HasDue c.step.new.self.core p due rest) (sym c.step.ensures.same)
    (due_asked world c.step.new.self.core client c.args.request.now c.answer.result.text.now (c.answer.ensures ∙ c.step.ensures.answered entry) (c.step.ensures.stepped entry) due rest asking)

pub returns-clause-due : goal.returns-clause-due
returns-clause-due g c = λ due rest selector before.
    let world = c.args.self.now.core in
    let client = c.args.self.now.client in
    let asking = subst (λ b. HasDue world client due (sends b (Some (CallSession selector c.args.request.now)) rest)) c.if-step.false before in
    let entry = asking.has.entry in
    subst (λ p. HasDue c.step.new.self.core p due rest) (sym c.step.ensures.same)
    (due_asked world c.step.new.self.core client c.args.request.now c.answer.result.text.now (c.answer.ensures ∙ c.step.ensures.answered entry) (c.step.ensures.stepped entry) due rest asking)

pub returns-in_default-clause-lacks : goal.returns-in_default-clause-lacks
returns-in_default-clause-lacks g c = λ other due rest selector before can.
    let none : c.account-2.result ≡ None = grind (arith, c.in_default.not-Some) in
    let world = c.args.self.now.core in
    let client = c.args.self.now.client in
    let asking = subst (λ b. HasDue world client due (sends b (Some (CallSession selector c.args.request.now)) rest)) c.if-step.false before in
    let entry = asking.has.entry in
    let after = (due_asked world c.step.new.self.core client c.args.request.now c.step.new.self.reply.text (c.step.ensures.answered entry) (c.step.ensures.stepped entry) due rest asking) in
    still_named c.step.new.self.core client after.now after.buffer after.has
    (none_told c.step.new.self.core c.step.new.self.client client world.entries c.account-2.result c.step.ensures.same c.step.ensures.entries entry none c.account-2.ensures)

pub returns-then-branch-clause-lines : goal.returns-then-branch-clause-lines
returns-then-branch-clause-lines g c = λ _ session donation rest whole selector before.
    let world = c.args.self.now.core in
    let client = c.args.self.now.client in
    let heard = c.args.run.now.heard in
    let so_far = c.args.run.now.trial.left_out.items in
    let asking =
    subst
    (λ b. HasSessionLeft world client heard session donation so_far
    (cond b (lines_without (amounts_of c.args.run.now.trial.meter.start) (mark_of c.args.step.now) c.args.request.now rest) (lines_asking c.args.step.now.number c.args.request.now rest)) whole)
    c.if-step.false before in
    let entry = asking.has.entry in
    lines_end world c.step.new.self.core client selector c.args.step.now.number c.args.request.now c.answer.result.text.now (c.answer.ensures ∙ c.step.ensures.answered entry)
    (c.step.ensures.stepped entry) c.in-Some.after
    (account_told c.step.new.self.core c.step.new.self.client client world.entries c.account-2.result c.in-Some.after c.step.ensures.same c.step.ensures.entries entry c.in-Some.is c.account-2.ensures)
    session donation heard c.follow.new.self so_far rest whole asking
    (λ more left told. c.in_ok-follow.ensures.end c.if-branch.true (asking.sent ++ Asks c.args.request.now ∷ more) more donation session asking.now (named_of asking.buffer) left told)
    c.refused_at.result c.refused_at.ensures.line (c.refused_at.ensures.shortage ∙ ap session_shortage (c.answer-then-branch.ensures ∙ sym c.answer.ensures))

pub returns-clause-later : goal.returns-clause-later
returns-clause-later g c = λ _ session donation rest whole selector before.
    let world = c.args.self.now.core in
    let client = c.args.self.now.client in
    let heard = c.args.run.now.heard in
    let so_far = c.args.run.now.trial.left_out.items in
    let asking =
    subst
    (λ b. HasSessionLeft world client heard session donation so_far
    (cond b (lines_without (amounts_of c.args.run.now.trial.meter.start) (mark_of c.args.step.now) c.args.request.now rest) (lines_asking c.args.step.now.number c.args.request.now rest)) whole)
    c.if-step.false before in
    let entry = asking.has.entry in
    let later =
    lines_later world c.step.new.self.core client selector c.args.step.now.number c.args.request.now c.answer.result.text.now (c.answer.ensures ∙ c.step.ensures.answered entry)
    (c.step.ensures.stepped entry) c.in-Some.after
    (account_told c.step.new.self.core c.step.new.self.client client world.entries c.account-2.result c.in-Some.after c.step.ensures.same c.step.ensures.entries entry c.in-Some.is c.account-2.ensures)
    session donation heard c.follow.new.self so_far rest whole asking
    (λ more left told. c.in_ok-follow.ensures.on c.if-branch.false (asking.sent ++ Asks c.args.request.now ∷ more) more donation session asking.now (named_of asking.buffer) left told) in
    subst (λ p. HasSessionLeft c.step.new.self.core p c.follow.new.self session donation c.keep_reply.new.self.left_out.items rest whole) (sym c.step.ensures.same)
    (subst (λ xs. HasSessionLeft c.step.new.self.core client c.follow.new.self session donation xs rest whole) (sym (ap (λ lines. lines.left_out) c.keep_reply.ensures.lines)) later)

pub returns-then-step-clause-later : goal.returns-then-step-clause-later
returns-then-step-clause-later g c = λ _ session donation rest whole selector before.
    let world = c.args.self.now.core in
    let client = c.args.self.now.client in
    let heard = c.args.run.now.heard in
    let start = amounts_of c.args.run.now.trial.meter.start in
    let mark = mark_of c.args.step.now in
    let so_far = c.args.run.now.trial.left_out.items in
    let skipping =
    subst
    (λ b. HasSessionLeft world client heard session donation so_far (cond b (lines_without start mark c.args.request.now rest) (lines_asking c.args.step.now.number c.args.request.now rest)) whole)
    c.if-step.true before in
    let account =
    held_account world client skipping.now skipping.buffer skipping.has (option_map quotas_account c.account.result) c.account.ensures in
    let at = heard_at world client heard session donation start mark c.args.request.now so_far c.leave_out.new.self.trial.left_out.items rest whole skipping in
    subst (λ meter. HasSessionLeft world client meter session donation c.leave_out.new.self.trial.left_out.items rest whole) (sym c.leave_out.ensures.heard)
    (lines_skipped world client heard session donation start mark c.args.request.now so_far c.leave_out.new.self.trial.left_out.items rest whole skipping
    (c.in_ok-leave_out.ensures.left_out skipping.now at account))
