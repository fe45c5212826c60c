-- From the first request on, and then the close.
use Rattle.std.proofs.Common.{None, sym, ap, ◌∙◌, subst}
use Rattle.std.specs.Prelude.{is_some}
use Rattle.std.specs.Option.{option_copied}
use Rattle.own_model.specs.Amounts.{Amounts}
use Rattle.own_model.specs.Session.{new_session}
use Rattle.budget_meter.specs.Needs.{amounts_of}
use Rattle.budget_meter.specs.Sessions.{Shows}
use Rattle.budget_search.specs.OpenedSessions.{IsReady, sent_at, HasDue}
use Rattle.budget_search.specs.SessionLines.{lines_at}
use Rattle.budget_search.proofs.SessionLemmas.{begins, closes, kinds_told}
use Rattle.budget_search.proofs.SessionLineLemmas.{lines_begin}
use Rattle.budget_search.proofs.session_trial.SessionLines.run.Goals as goal
use Rattle.budget_search.proofs.FaultLemmas.{passed_on}

pub returns-clause-run : goal.returns-clause-run
returns-clause-run g c = λ wish enough same has.
    let sent = sent_at c.args.self.steps.now c.as_slice.result.now in
    let donation : Amounts = record { ram = wish.ram; caps = wish.caps } in
    let ended =
    c.in_ok-go_through.ensures.ended sent (new_session wish) donation
    (begins c.args.client.now.core c.args.client.now.client wish sent c.in_ok-heard.heard has
    (c.in_ok-heard.ensures wish (kinds_told c.args.client.now.core c.args.client.now.client (new_session wish) has (option_copied c.kinds.result) c.kinds.ensures) enough same)) in
    subst (λ places. Shows (sent_at c.args.self.steps.now places) (new_session wish) donation (is_some c.go_through.new.run.trial.refused) c.go_through.new.run.heard.meter) c.as_slice.ensures.value
    ended.shows

pub returns-clause-ready : goal.returns-clause-ready
returns-clause-ready g c = λ wish enough same has.
    let sent = sent_at c.args.self.steps.now c.as_slice.result.now in
    let donation : Amounts = record { ram = wish.ram; caps = wish.caps } in
    let ended =
    c.in_ok-go_through.ensures.ended sent (new_session wish) donation
    (begins c.args.client.now.core c.args.client.now.client wish sent c.in_ok-heard.heard has
    (c.in_ok-heard.ensures wish (kinds_told c.args.client.now.core c.args.client.now.client (new_session wish) has (option_copied c.kinds.result) c.kinds.ensures) enough same)) in
    let entry = ended.has.entry in
    subst (λ p. IsReady c.step.new.self.core p) (sym c.step.ensures.same)
    (closes c.go_through.new.self.core c.step.new.self.core c.go_through.new.self.client c.step.new.self.reply.text (c.step.ensures.answered entry) (c.step.ensures.stepped entry)
    ended.now ended.buffer ended.has)

pub returns-in_err-go_through-clause-lacks : goal.returns-in_err-go_through-clause-lacks
returns-in_err-go_through-clause-lacks g c =
    passed_on _ _ c.from_residual-in_err-go_through.result c.from_residual-in_err-go_through.ensures.1
    (λ other due before.
    c.in_err-go_through.ensures.lacks other due
    (subst (λ places. HasDue c.args.client.now.core c.args.client.now.client due (sent_at c.args.self.steps.now places)) (sym c.as_slice.ensures.value) before))

pub returns-clause-lines : goal.returns-clause-lines
returns-clause-lines g c = λ wish enough same has.
    let steps = c.args.self.steps.now in
    let donation : Amounts = record { ram = wish.ram; caps = wish.caps } in
    let begun = c.new-2.result in
    let whole = lines_at (amounts_of c.args.donation) steps c.as_slice.result.now None (new_session wish) in
    c.in_ok-go_through.ensures.lines (new_session wish) donation whole
    (lines_begin c.args.client.now.core c.args.client.now.client wish c.in_ok-heard.heard begun.left_out.items (lines_at (amounts_of begun.meter.start) steps c.as_slice.result.now) whole
    (ap (λ lines. lines.left_out) c.new-2.ensures.lines) (ap (λ start. lines_at (amounts_of start) steps c.as_slice.result.now None (new_session wish)) c.new-2.ensures.start) has
    (c.in_ok-heard.ensures wish (kinds_told c.args.client.now.core c.args.client.now.client (new_session wish) has (option_copied c.kinds.result) c.kinds.ensures) enough same))
    ∙ ap (λ places. lines_at (amounts_of c.args.donation) steps places None (new_session wish)) c.as_slice.ensures.value
