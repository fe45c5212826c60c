-- A request that is in want ends a run, and any other leaves one less.
use Rattle.std.proofs.Common.{sym, ◌∙◌, subst}
use Rattle.own_model.specs.OwnState.{bytes_of_buffer}
use Rattle.own_model.specs.Session.{Session, served}
use Rattle.budget_meter.specs.SessionRuns.Sent.{Asks}
use Rattle.budget_meter.specs.Sessions.{IsServedBy}
use Rattle.budget_meter.proofs.SessionLemmas.{one_less, ended, want_told}
use Rattle.budget_meter.proofs.session.SessionMeter.follow.Goals as goal

pub returns-clause-on : goal.returns-clause-on
returns-clause-on c = λ is sent rest donation session now buffer left told.
    let request = c.args.request.now in
    one_less sent donation session c.hear.new.self (Asks request) rest (bytes_of_buffer buffer) now c.args.self.now left
    (λ heard has here.
    c.in_ok-hear.ensures heard donation session buffer has
    (subst (λ (t : Session). IsServedBy c.args.reply.text.now c.args.after buffer (served (bytes_of_buffer buffer) t request)) (sym here) told))
    (want_told left.heard donation session now buffer request c.args.reply.text.now c.args.after c.args.self.now left.has left.here told ∙ sym c.is_short.ensures ∙ is)

pub returns-clause-end : goal.returns-clause-end
returns-clause-end c = λ is sent rest donation session now buffer left told.
    let request = c.args.request.now in
    ended sent donation session c.hear.new.self (Asks request) rest (bytes_of_buffer buffer) now c.args.self.now left
    (λ heard has here.
    c.in_ok-hear.ensures heard donation session buffer has
    (subst (λ (t : Session). IsServedBy c.args.reply.text.now c.args.after buffer (served (bytes_of_buffer buffer) t request)) (sym here) told))
    (want_told left.heard donation session now buffer request c.args.reply.text.now c.args.after c.args.self.now left.has left.here told ∙ sym c.is_short.ensures ∙ is)
