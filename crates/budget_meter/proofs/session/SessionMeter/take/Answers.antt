-- One test, or none.
use Rattle.std.proofs.Common.{sym, ap, ◌∙◌}
use Rattle.core_calls.specs.Quotas.{quotas_account}
use Rattle.budget_meter.specs.NeededAmounts.{amount_tests}
use Rattle.budget_meter.specs.Needs.{amounts_of, shown_in, shown_of, together}
use Rattle.budget_meter.proofs.ShownLemmas.{together_nothing}
use Rattle.budget_meter.proofs.session.SessionMeter.take.Goals as goal

pub returns-in-Some-clause-shown : goal.returns-in-Some-clause-shown
returns-in-Some-clause-shown c = λ files few pages keeps.
    let meter = c.args.self.now.meter in
    let account = quotas_account c.args.self.now.account in
    c.take.ensures.shown
    ∙ ap (together (shown_in meter))
    (ap (λ asked. shown_of (amounts_of meter.start) account (amount_tests asked)) (sym c.in-Some.is)
    ∙ c.asked_when_told.ensures (sym c.is_create.ensures ∙ c.if-is_create.false) files keeps (amounts_of meter.start) account few)

pub returns-in_default-clause-shown : goal.returns-in_default-clause-shown
returns-in_default-clause-shown c = λ files few pages keeps.
    let meter = c.args.self.now.meter in
    let account = quotas_account c.args.self.now.account in
    sym (together_nothing (shown_in meter))
    ∙ ap (together (shown_in meter))
    (ap (λ asked. shown_of (amounts_of meter.start) account (amount_tests asked)) (sym c.in_default.is)
    ∙ c.asked_when_told.ensures (sym c.is_create.ensures ∙ c.if-is_create.false) files keeps (amounts_of meter.start) account few)
