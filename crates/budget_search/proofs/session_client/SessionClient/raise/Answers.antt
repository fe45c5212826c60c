-- What is told as done is.
use Rattle.std.proofs.Common.{cond, ◌∷◌, ◌++◌, sym, ap, ◌∙◌, subst, arith, ◌≡◌, None, true≢false}
use Rattle.std.specs.Prelude.{Some}
use Rattle.own_model.specs.Call.Call.{Upgrade}
use Rattle.own_model.specs.SessionArgs.{arguments_of}
use Rattle.budget_meter.specs.NeededAmounts.{amount_tests}
use Rattle.budget_meter.specs.SessionRuns.Sent.{Raises}
use Rattle.budget_search.specs.OpenedSessions.{HasLeft, raises, sends, HasDue}
use Rattle.budget_search.specs.SessionLines.{HasSessionLeft, lines_raising}
use Rattle.budget_search.proofs.SessionLemmas.{account_told, arguments_named, raises_on, none_told}
use Rattle.budget_search.proofs.SessionLineLemmas.{lines_raised}
use Rattle.budget_search.proofs.session_client.SessionClient.raise.Goals as goal
use Rattle.budget_search.proofs.DueLemmas.{due_done, due_raised, still_named}

pub returns-clause-left : goal.returns-clause-left
returns-clause-left g c = λ sent rest session donation selector before.
    let world = c.args.self.now.core in
    let client = c.args.self.now.client in
    let heard = c.args.run.now.heard in
    let named = arguments_named c.in-Some.field-0 _ (sym (ap amount_tests c.in-Some.is) ∙ c.named_by.ensures) in
    let made = subst (λ b. HasLeft world client heard sent (sends b (Some (Upgrade selector c.args.args.now)) rest) session donation) c.if-is_left_out.false before in
    let raising = subst (λ a. HasLeft world client heard sent (raises a rest) session donation) named.1.0 made in
    let entry = raising.has.entry in
    subst (λ p. HasLeft c.step.new.self.core p c.raise.new.self sent rest session donation) (sym c.step.ensures.same)
    (raises_on world c.step.new.self.core client c.args.args.now c.answer.result.text.now (c.answer.ensures ∙ c.step.ensures.answered entry) (c.step.ensures.stepped entry)
    c.in-Some-account.account
    (account_told c.step.new.self.core c.step.new.self.client client world.entries c.account.result c.in-Some-account.account c.step.ensures.same c.step.ensures.entries entry
    c.in-Some-account.is c.account.ensures)
    (sym c.is_done.ensures ∙ c.if-not-is_done.false) named.0 named.1.0 sent rest session donation heard c.raise.new.self raising
    (λ left same. c.raise.ensures.left sent rest donation _ session raising.now raising.buffer left same))

pub returns-clause-due : goal.returns-clause-due
returns-clause-due g c = λ due rest selector before.
    let world = c.args.self.now.core in
    let client = c.args.self.now.client in
    let named = arguments_named c.in-Some.field-0 _ (sym (ap amount_tests c.in-Some.is) ∙ c.named_by.ensures) in
    let made = subst (λ b. HasDue world client due (sends b (Some (Upgrade selector c.args.args.now)) rest)) c.if-is_left_out.false before in
    let raising = subst (λ a. HasDue world client due (raises a rest)) named.1.0 made in
    let entry = raising.has.entry in
    subst (λ p. HasDue c.step.new.self.core p due rest) (sym c.step.ensures.same)
    (due_raised world c.step.new.self.core client c.args.args.now c.answer.result.text.now (c.answer.ensures ∙ c.step.ensures.answered entry) (c.step.ensures.stepped entry) named.0 named.1.0
    due rest raising
    (sym c.is_done.ensures ∙ c.if-not-is_done.false))

pub returns-then-not-is_done-clause-lacks : goal.returns-then-not-is_done-clause-lacks
returns-then-not-is_done-clause-lacks g c = λ other due rest selector before can.
    let world = c.args.self.now.core in
    let client = c.args.self.now.client in
    let named = arguments_named c.in-Some.field-0 _ (sym (ap amount_tests c.in-Some.is) ∙ c.named_by.ensures) in
    let made = subst (λ b. HasDue world client due (sends b (Some (Upgrade selector c.args.args.now)) rest)) c.if-is_left_out.false before in
    let raising = subst (λ a. HasDue world client due (raises a rest)) named.1.0 made in
    let entry = raising.has.entry in
    true≢false (sym (due_done world c.step.new.self.core client c.args.args.now c.answer.result.text.now (c.answer.ensures ∙ c.step.ensures.answered entry) (c.step.ensures.stepped entry) named.0 named.1.0
    due rest raising can)
    ∙ sym c.is_done.ensures ∙ c.if-not-is_done.true)

pub returns-in_default-account-clause-lacks : goal.returns-in_default-account-clause-lacks
returns-in_default-account-clause-lacks g c = λ other due rest selector before can.
    let none : c.account.result ≡ None = grind (arith, c.in_default-account.not-Some) in
    let world = c.args.self.now.core in
    let client = c.args.self.now.client in
    let named = arguments_named c.in-Some.field-0 _ (sym (ap amount_tests c.in-Some.is) ∙ c.named_by.ensures) in
    let made = subst (λ b. HasDue world client due (sends b (Some (Upgrade selector c.args.args.now)) rest)) c.if-is_left_out.false before in
    let raising = subst (λ a. HasDue world client due (raises a rest)) named.1.0 made in
    let entry = raising.has.entry in
    let after =
    due_raised world c.step.new.self.core client c.args.args.now c.answer.result.text.now (c.answer.ensures ∙ c.step.ensures.answered entry) (c.step.ensures.stepped entry) named.0 named.1.0
    due rest raising
    (sym c.is_done.ensures ∙ c.if-not-is_done.false) in
    still_named c.step.new.self.core client after.now after.buffer after.has
    (none_told c.step.new.self.core c.step.new.self.client client world.entries c.account.result c.step.ensures.same c.step.ensures.entries entry none c.account.ensures)

pub returns-clause-later : goal.returns-clause-later
returns-clause-later g c = λ session donation rest whole mark selector marked before.
    let world = c.args.self.now.core in
    let client = c.args.self.now.client in
    let heard = c.args.run.now.heard in
    let so_far = c.args.run.now.trial.left_out.items in
    let named = arguments_named c.in-Some.field-0 _ (sym (ap amount_tests c.in-Some.is) ∙ c.named_by.ensures) in
    let made =
    subst (λ b. HasSessionLeft world client heard session donation so_far (cond b rest (lines_raising (arguments_of c.args.args.now) rest)) whole) (marked ∙ c.if-is_left_out.false) before in
    let raising = subst (λ a. HasSessionLeft world client heard session donation so_far (lines_raising a rest) whole) named.1.0 made in
    let entry = raising.has.entry in
    let later =
    lines_raised world c.step.new.self.core client c.args.args.now c.answer.result.text.now (c.answer.ensures ∙ c.step.ensures.answered entry) (c.step.ensures.stepped entry)
    c.in-Some-account.account
    (account_told c.step.new.self.core c.step.new.self.client client world.entries c.account.result c.in-Some-account.account c.step.ensures.same c.step.ensures.entries entry
    c.in-Some-account.is c.account.ensures)
    (sym c.is_done.ensures ∙ c.if-not-is_done.false) named.0 named.1.0 session donation heard c.raise.new.self so_far rest whole raising
    (λ all left same.
    c.raise.ensures.left (raising.sent ++ Raises (record { ram = named.0.ram; caps = named.0.caps }) ∷ all) all donation _ session raising.now raising.buffer left same) in
    subst (λ p. HasSessionLeft c.step.new.self.core p c.raise.new.self session donation c.keep_reply.new.self.left_out.items rest whole) (sym c.step.ensures.same)
    (subst (λ xs. HasSessionLeft c.step.new.self.core client c.raise.new.self session donation xs rest whole) (sym (ap (λ lines. lines.left_out) c.keep_reply.ensures.lines)) later)
