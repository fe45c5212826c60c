-- Opened, or too small.
use Rattle.std.proofs.lemmas.Option.{slice_get_read}
use Rattle.std.proofs.Common.{None, refl, sym, ap, ◌∙◌, subst, true≢false}
use Rattle.std.specs.Prelude.{Some, is_some}
use Rattle.own_model.specs.Session.{Wish, new_session}
use Rattle.own_model.specs.Transcript.{entry_at}
use Rattle.core_calls.specs.Call.{model_call}
use Rattle.budget_meter.specs.Needs.{amounts_of}
use Rattle.budget_search.specs.OpenedSessions.{HasSelectors, IsReady, held, opened_by, opened_with, sent_at, is_too_small, raised_in}
use Rattle.budget_search.specs.RunLines.{ended_by, lines_in}
use Rattle.budget_search.specs.SessionLines.{donated_shortage, refused_line}
use Rattle.budget_search.proofs.SessionLemmas.{account_told, none_told, each_ok, each_on, each_three, routed_few, routed_open, shows_run, small_run, was_not, was_opened, wish_again}
use Rattle.budget_search.proofs.SessionLineLemmas.{each_two, lines_opened, lines_unopened}
use Rattle.budget_search.proofs.session_trial.SessionLines.trial.Goals as goal
use Rattle.std.proofs.lemmas.Result.{IfErr-weaker}
use Rattle.own_model.specs.Account.{Account, Fits}
use Rattle.own_model.specs.Amounts.{more_of}
use Rattle.own_model.specs.SessionArgs.{arguments_of}
use Rattle.budget_search.proofs.DueLemmas.{due_opened, each_err, made_read}

pub returns-in-Some-account-clause-run : goal.returns-in-Some-account-clause-run
returns-in-Some-account-clause-run g c =
    each_ok c.run.result
    (λ trial runs session ready opens.
    let world = c.args.client.now.core in
    let client = c.args.client.now.client in
    let entry = entry_at world.entries client in
    let donation = amounts_of c.args.donation in
    let text = c.as_slice-args.result.now in
    let found = slice_get_read c.args.self.steps.now _ c.args.self.opened.now.step c.in-Some.opening.now refl c.in-Some.ensures.lookup.3.0 c.in-Some.ensures.lookup.1 in
    let again =
    wish_again entry c.in-Some-Open.service.now c.in-Some-Open.given.now text donation session
    (ap (opened_by entry) (ap (λ x. Some (model_call x)) (sym c.in-Some-Open.field-0-is) ∙ c.in-Some-Open.ensures.call) ∙ sym (ap (opened_with entry) found) ∙ opens)
    (c.donates.ensures.named c.if-not-donates.false) in
    let wish : Wish = record again.0 { ram = donation.ram; caps = donation.caps } in
    let opened =
    was_opened world c.step.new.self.core client c.in-Some-Open.service.now text c.step.new.self.reply.text (c.step.ensures.answered ready.entry) (c.step.ensures.stepped ready.entry) ready wish
    again.1.0 c.in-Some-account.account
    (account_told c.step.new.self.core c.step.new.self.client client world.entries c.account.result c.in-Some-account.account c.step.ensures.same c.step.ensures.entries ready.entry
    c.in-Some-account.is c.account.ensures) in
    shows_run (sent_at c.args.self.steps.now c.args.self.opened.now.steps.items) again.0 donation session trial again.1.1
    (runs wish opened.enough opened.same (subst (λ p. HasSelectors c.step.new.self.core p (held (new_session wish) None)) (sym c.step.ensures.same) opened.has)))
    c.run.ensures.run

pub returns-in-Some-account-clause-ready : goal.returns-in-Some-account-clause-ready
returns-in-Some-account-clause-ready g c =
    each_on c.run.result
    (λ runs session ready opens.
    let world = c.args.client.now.core in
    let client = c.args.client.now.client in
    let entry = entry_at world.entries client in
    let donation = amounts_of c.args.donation in
    let text = c.as_slice-args.result.now in
    let found = slice_get_read c.args.self.steps.now _ c.args.self.opened.now.step c.in-Some.opening.now refl c.in-Some.ensures.lookup.3.0 c.in-Some.ensures.lookup.1 in
    let again =
    wish_again entry c.in-Some-Open.service.now c.in-Some-Open.given.now text donation session
    (ap (opened_by entry) (ap (λ x. Some (model_call x)) (sym c.in-Some-Open.field-0-is) ∙ c.in-Some-Open.ensures.call) ∙ sym (ap (opened_with entry) found) ∙ opens)
    (c.donates.ensures.named c.if-not-donates.false) in
    let wish : Wish = record again.0 { ram = donation.ram; caps = donation.caps } in
    let opened =
    was_opened world c.step.new.self.core client c.in-Some-Open.service.now text c.step.new.self.reply.text (c.step.ensures.answered ready.entry) (c.step.ensures.stepped ready.entry) ready wish
    again.1.0 c.in-Some-account.account
    (account_told c.step.new.self.core c.step.new.self.client client world.entries c.account.result c.in-Some-account.account c.step.ensures.same c.step.ensures.entries ready.entry
    c.in-Some-account.is c.account.ensures) in
    runs wish opened.enough opened.same (subst (λ p. HasSelectors c.step.new.self.core p (held (new_session wish) None)) (sym c.step.ensures.same) opened.has))
    c.run.ensures.ready

pub returns-clause-run : goal.returns-clause-run
returns-clause-run g c =
    each_three c.unopened.result
    (λ trial small refused shown session ready opens.
    let world = c.args.client.now.core in
    let client = c.args.client.now.client in
    let entry = entry_at world.entries client in
    let donation = amounts_of c.args.donation in
    let text = c.as_slice-args.result.now in
    let found = slice_get_read c.args.self.steps.now _ c.args.self.opened.now.step c.in-Some.opening.now refl c.in-Some.ensures.lookup.3.0 c.in-Some.ensures.lookup.1 in
    let again =
    wish_again entry c.in-Some-Open.service.now c.in-Some-Open.given.now text donation session
    (ap (opened_by entry) (ap (λ x. Some (model_call x)) (sym c.in-Some-Open.field-0-is) ∙ c.in-Some-Open.ensures.call) ∙ sym (ap (opened_with entry) found) ∙ opens)
    (c.donates.ensures.named c.if-not-donates.false) in
    let wish : Wish = record again.0 { ram = donation.ram; caps = donation.caps } in
    let left =
    was_not world c.step.new.self.core client c.in-Some-Open.service.now text c.step.new.self.reply.text (c.step.ensures.answered ready.entry) (c.step.ensures.stepped ready.entry) ready wish
    again.1.0
    (none_told c.step.new.self.core c.step.new.self.client client world.entries c.account.result c.step.ensures.same c.step.ensures.entries ready.entry c.in-None.is c.account.ensures)
    (sym (ap is_too_small c.answer.ensures) ∙ small) in
    small_run (sent_at c.args.self.steps.now c.args.self.opened.now.steps.items) donation session trial left.small refused shown)
    c.unopened.ensures.small c.unopened.ensures.refused c.unopened.ensures.shown

pub returns-clause-ready : goal.returns-clause-ready
returns-clause-ready g c =
    each_on c.unopened.result
    (λ small session ready opens.
    let world = c.args.client.now.core in
    let client = c.args.client.now.client in
    let entry = entry_at world.entries client in
    let donation = amounts_of c.args.donation in
    let text = c.as_slice-args.result.now in
    let found = slice_get_read c.args.self.steps.now _ c.args.self.opened.now.step c.in-Some.opening.now refl c.in-Some.ensures.lookup.3.0 c.in-Some.ensures.lookup.1 in
    let again =
    wish_again entry c.in-Some-Open.service.now c.in-Some-Open.given.now text donation session
    (ap (opened_by entry) (ap (λ x. Some (model_call x)) (sym c.in-Some-Open.field-0-is) ∙ c.in-Some-Open.ensures.call) ∙ sym (ap (opened_with entry) found) ∙ opens)
    (c.donates.ensures.named c.if-not-donates.false) in
    let wish : Wish = record again.0 { ram = donation.ram; caps = donation.caps } in
    let left =
    was_not world c.step.new.self.core client c.in-Some-Open.service.now text c.step.new.self.reply.text (c.step.ensures.answered ready.entry) (c.step.ensures.stepped ready.entry) ready wish
    again.1.0
    (none_told c.step.new.self.core c.step.new.self.client client world.entries c.account.result c.step.ensures.same c.step.ensures.entries ready.entry c.in-None.is c.account.ensures)
    (sym (ap is_too_small c.answer.ensures) ∙ small) in
    subst (λ p. IsReady c.step.new.self.core p) (sym c.step.ensures.same) left.still)
    c.unopened.ensures.small

pub returns-in-Some-account-clause-opened : goal.returns-in-Some-account-clause-opened
returns-in-Some-account-clause-opened g c =
    each_on c.run.result
    (λ _ ready.
    let world = c.args.client.now.core in
    let client = c.args.client.now.client in
    let entry = entry_at world.entries client in
    let text = c.as_slice-args.result.now in
    let found = slice_get_read c.args.self.steps.now _ c.args.self.opened.now.step c.in-Some.opening.now refl c.in-Some.ensures.lookup.3.0 c.in-Some.ensures.lookup.1 in
    ap (λ o. is_some (opened_with entry o)) found
    ∙ ap (λ o. is_some (opened_by entry o)) (sym (ap (λ x. Some (model_call x)) (sym c.in-Some-Open.field-0-is) ∙ c.in-Some-Open.ensures.call))
    ∙ routed_open world c.step.new.self.core client c.in-Some-Open.service.now c.in-Some-Open.given.now text c.step.new.self.reply.text (amounts_of c.args.donation)
    (c.step.ensures.answered ready.entry) (c.step.ensures.stepped ready.entry) ready (c.donates.ensures.read c.if-not-donates.false) (c.donates.ensures.named c.if-not-donates.false)
    c.in-Some-account.account
    (account_told c.step.new.self.core c.step.new.self.client client world.entries c.account.result c.in-Some-account.account c.step.ensures.same c.step.ensures.entries ready.entry
    c.in-Some-account.is c.account.ensures))
    c.run.ensures.ready

pub returns-clause-opened : goal.returns-clause-opened
returns-clause-opened g c =
    each_on c.unopened.result
    (λ small ready.
    let world = c.args.client.now.core in
    let client = c.args.client.now.client in
    let entry = entry_at world.entries client in
    let text = c.as_slice-args.result.now in
    let found = slice_get_read c.args.self.steps.now _ c.args.self.opened.now.step c.in-Some.opening.now refl c.in-Some.ensures.lookup.3.0 c.in-Some.ensures.lookup.1 in
    ap (λ o. is_some (opened_with entry o)) found
    ∙ ap (λ o. is_some (opened_by entry o)) (sym (ap (λ x. Some (model_call x)) (sym c.in-Some-Open.field-0-is) ∙ c.in-Some-Open.ensures.call))
    ∙ routed_few world c.step.new.self.core client c.in-Some-Open.service.now c.in-Some-Open.given.now text c.step.new.self.reply.text (amounts_of c.args.donation)
    (c.step.ensures.answered ready.entry) (c.step.ensures.stepped ready.entry) ready (c.donates.ensures.read c.if-not-donates.false) (c.donates.ensures.named c.if-not-donates.false)
    (sym (ap is_too_small c.answer.ensures) ∙ small))
    c.unopened.ensures.small

pub returns-then-not-donates-clause-lacks : goal.returns-then-not-donates-clause-lacks
returns-then-not-donates-clause-lacks g c = λ other few session ready opens can.
    let world = c.args.client.now.core in
    let client = c.args.client.now.client in
    let entry = entry_at world.entries client in
    let donation = amounts_of c.args.donation in
    let text = c.as_slice-args.result.now in
    let found = slice_get_read c.args.self.steps.now _ c.args.self.opened.now.step c.in-Some.opening.now refl c.in-Some.ensures.lookup.3.0 c.in-Some.ensures.lookup.1 in
    let asked =
    ap (opened_by entry) (ap (λ x. Some (model_call x)) (sym c.in-Some-Open.field-0-is) ∙ c.in-Some-Open.ensures.call) ∙ sym (ap (opened_with entry) found) ∙ opens in
    true≢false
    (sym (c.donates.ensures.written few (made_read entry.label entry.routes c.in-Some-Open.service.now (arguments_of c.in-Some-Open.given.now) session asked)
    (c.as_slice-args.ensures.value ∙ c.in_ok-named.ensures))
    ∙ c.if-not-donates.true)

pub returns-in-Some-account-clause-lacks : goal.returns-in-Some-account-clause-lacks
returns-in-Some-account-clause-lacks g c =
    IfErr-weaker c.run.result _ _
    (λ fault lacks other few session ready opens can.
    let world = c.args.client.now.core in
    let client = c.args.client.now.client in
    let entry = entry_at world.entries client in
    let donation = amounts_of c.args.donation in
    let text = c.as_slice-args.result.now in
    let found = slice_get_read c.args.self.steps.now _ c.args.self.opened.now.step c.in-Some.opening.now refl c.in-Some.ensures.lookup.3.0 c.in-Some.ensures.lookup.1 in
    let asked =
    ap (opened_by entry) (ap (λ x. Some (model_call x)) (sym c.in-Some-Open.field-0-is) ∙ c.in-Some-Open.ensures.call) ∙ sym (ap (opened_with entry) found) ∙ opens in
    let again = wish_again entry c.in-Some-Open.service.now c.in-Some-Open.given.now text donation session asked (c.donates.ensures.named c.if-not-donates.false) in
    let wish : Wish = record again.0 { ram = donation.ram; caps = donation.caps } in
    let more = raised_in (sent_at c.args.self.steps.now c.args.self.opened.now.steps.items) in
    let due = more_of donation more in
    let opened =
    was_opened world c.step.new.self.core client c.in-Some-Open.service.now text c.step.new.self.reply.text (c.step.ensures.answered ready.entry) (c.step.ensures.stepped ready.entry) ready wish
    again.1.0 c.in-Some-account.account
    (account_told c.step.new.self.core c.step.new.self.client client world.entries c.account.result c.in-Some-account.account c.step.ensures.same c.step.ensures.entries ready.entry
    c.in-Some-account.is c.account.ensures) in
    lacks other due
    (record {
      now = new_session wish;
      buffer = None;
      has = subst (λ p. HasSelectors c.step.new.self.core p (held (new_session wish) None)) (sym c.step.ensures.same) opened.has;
      due_is = refl;
    })
    (subst (λ (account : Account). Fits account due.ram due.caps) (sym (c.step.ensures.whole refl)) can))
    c.run.ensures.lacks

pub returns-clause-lacks : goal.returns-clause-lacks
returns-clause-lacks g c =
    each_err c.unopened.result
    (λ large fault other few session ready opens can.
    let world = c.args.client.now.core in
    let client = c.args.client.now.client in
    let entry = entry_at world.entries client in
    let donation = amounts_of c.args.donation in
    let text = c.as_slice-args.result.now in
    let found = slice_get_read c.args.self.steps.now _ c.args.self.opened.now.step c.in-Some.opening.now refl c.in-Some.ensures.lookup.3.0 c.in-Some.ensures.lookup.1 in
    let asked =
    ap (opened_by entry) (ap (λ x. Some (model_call x)) (sym c.in-Some-Open.field-0-is) ∙ c.in-Some-Open.ensures.call) ∙ sym (ap (opened_with entry) found) ∙ opens in
    let again = wish_again entry c.in-Some-Open.service.now c.in-Some-Open.given.now text donation session asked (c.donates.ensures.named c.if-not-donates.false) in
    let wish : Wish = record again.0 { ram = donation.ram; caps = donation.caps } in
    due_opened world c.step.new.self.core client c.in-Some-Open.service.now text c.step.new.self.reply.text (c.step.ensures.answered ready.entry) (c.step.ensures.stepped ready.entry) ready wish
    again.1.0 (raised_in (sent_at c.args.self.steps.now c.args.self.opened.now.steps.items)) can
    (none_told c.step.new.self.core c.step.new.self.client client world.entries c.account.result c.step.ensures.same c.step.ensures.entries ready.entry c.in-None.is c.account.ensures)
    (sym (ap is_too_small c.answer.ensures) ∙ large))
    c.unopened.ensures.large

pub returns-in-Some-account-clause-lines : goal.returns-in-Some-account-clause-lines
returns-in-Some-account-clause-lines g c =
    each_ok c.run.result
    (λ trial is session ready opens.
    let world = c.args.client.now.core in
    let client = c.args.client.now.client in
    let entry = entry_at world.entries client in
    let donation = amounts_of c.args.donation in
    let text = c.as_slice-args.result.now in
    let found = slice_get_read c.args.self.steps.now _ c.args.self.opened.now.step c.in-Some.opening.now refl c.in-Some.ensures.lookup.3.0 c.in-Some.ensures.lookup.1 in
    let again =
    wish_again entry c.in-Some-Open.service.now c.in-Some-Open.given.now text donation session
    (ap (opened_by entry) (ap (λ x. Some (model_call x)) (sym c.in-Some-Open.field-0-is) ∙ c.in-Some-Open.ensures.call) ∙ sym (ap (opened_with entry) found) ∙ opens)
    (c.donates.ensures.named c.if-not-donates.false) in
    let wish : Wish = record again.0 { ram = donation.ram; caps = donation.caps } in
    let opened =
    was_opened world c.step.new.self.core client c.in-Some-Open.service.now text c.step.new.self.reply.text (c.step.ensures.answered ready.entry) (c.step.ensures.stepped ready.entry) ready wish
    again.1.0 c.in-Some-account.account
    (account_told c.step.new.self.core c.step.new.self.client client world.entries c.account.result c.in-Some-account.account c.step.ensures.same c.step.ensures.entries ready.entry
    c.in-Some-account.is c.account.ensures) in
    lines_opened c.args.self.steps.now c.args.self.opened.now.step c.args.self.opened.now.steps.items again.0 donation session (lines_in trial) again.1.1 opened.enough
    (is wish opened.enough opened.same (subst (λ p. HasSelectors c.step.new.self.core p (held (new_session wish) None)) (sym c.step.ensures.same) opened.has)))
    c.run.ensures.lines

pub returns-clause-lines : goal.returns-clause-lines
returns-clause-lines g c =
    each_two c.unopened.result
    (λ trial small is session ready opens.
    let world = c.args.client.now.core in
    let client = c.args.client.now.client in
    let entry = entry_at world.entries client in
    let donation = amounts_of c.args.donation in
    let text = c.as_slice-args.result.now in
    let found = slice_get_read c.args.self.steps.now _ c.args.self.opened.now.step c.in-Some.opening.now refl c.in-Some.ensures.lookup.3.0 c.in-Some.ensures.lookup.1 in
    let again =
    wish_again entry c.in-Some-Open.service.now c.in-Some-Open.given.now text donation session
    (ap (opened_by entry) (ap (λ x. Some (model_call x)) (sym c.in-Some-Open.field-0-is) ∙ c.in-Some-Open.ensures.call) ∙ sym (ap (opened_with entry) found) ∙ opens)
    (c.donates.ensures.named c.if-not-donates.false) in
    let wish : Wish = record again.0 { ram = donation.ram; caps = donation.caps } in
    let left =
    was_not world c.step.new.self.core client c.in-Some-Open.service.now text c.step.new.self.reply.text (c.step.ensures.answered ready.entry) (c.step.ensures.stepped ready.entry) ready wish
    again.1.0
    (none_told c.step.new.self.core c.step.new.self.client client world.entries c.account.result c.step.ensures.same c.step.ensures.entries ready.entry c.in-None.is c.account.ensures)
    (sym (ap is_too_small c.answer.ensures) ∙ small) in
    lines_unopened c.args.self.steps.now c.args.self.opened.now.step c.in-Some.opening.now c.args.self.opened.now.steps.items donation session c.step.new.self.reply.text (lines_in trial) found
    (is ∙ ap (λ reply. ended_by (refused_line c.in-Some.opening.now.number (donated_shortage reply))) c.answer.ensures) left.shows)
    c.unopened.ensures.small c.unopened.ensures.lines
