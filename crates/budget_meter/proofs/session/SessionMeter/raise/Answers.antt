-- What was donated moves the account alone.
use Rattle.std.proofs.Common.{rules, ◌<◌, ◌^◌, refl, sym, ap, ◌∙◌}
use Rattle.budget_meter.specs.SessionRuns.Sent.{Raises}
use Rattle.budget_meter.specs.declared.session.SessionMeter.{SessionMeter}
use Rattle.own_model.specs.Session.{Session, upgraded}
use Rattle.budget_meter.proofs.SessionLemmas.{raised, unraised, one_less}
use Rattle.budget_meter.proofs.session.SessionMeter.raise.Goals as goal

pub returns-clause-raised : goal.returns-clause-raised
returns-clause-raised c = λ all donation more session before same.
    let few : c.args.account.ram_limit.0 < 2 ^ 64 = search rules in
    raised all donation session c.args.self.now (record c.args.self.now { account = c.args.account }) more before refl refl refl refl few same

pub returns-clause-left : goal.returns-clause-left
returns-clause-left c = λ sent rest donation more session now buffer before same.
    let few : c.args.account.ram_limit.0 < 2 ^ 64 = search rules in
    let new : SessionMeter = record c.args.self.now { account = c.args.account } in
    one_less sent donation session new (Raises more) rest buffer now c.args.self.now before
    (λ heard has here. raised heard donation session c.args.self.now new more has refl refl refl refl few (same ∙ ap (λ (s : Session). (upgraded s more.ram more.caps).account) (sym here)))
    refl

pub returns-clause-refused : goal.returns-clause-refused
returns-clause-refused c = λ all donation session before same.
    let few : c.args.account.ram_limit.0 < 2 ^ 64 = search rules in
    unraised all donation session c.args.self.now (record c.args.self.now { account = c.args.account }) before refl refl refl refl few same
