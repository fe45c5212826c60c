-- What a heap tells of its growth, and what no other call changes.
use Rattle.std.proofs.Common.{refl, sym, ◌∙◌}
use Rattle.core_calls.specs.Quotas.{quotas_account}
use Rattle.core_calls.specs.Call.{model_call}
use Rattle.budget_meter.specs.Needs.{amounts_of, shown_in}
use Rattle.budget_meter.proofs.HeardLemmas.{grown_pages, grown_shown, number_left, quiet_pages, quiet_shown}
use Rattle.budget_meter.proofs.account.AccountMeter.take.Goals as goal

pub returns-then-shows_growth-clause-shown : goal.returns-then-shows_growth-clause-shown
returns-then-shows_growth-clause-shown c = λ entry s stands told.
    let meter = c.args.self.now.meter in
    grown_shown (model_call c.args.call) entry s c.args.reply.text.now c.args.after (quotas_account c.args.self.now.account) stands.account told
    (amounts_of meter.start) (shown_in meter) (shown_in c.take_growth-self.new.meter) c.in-Some.n c.in-Some.ensures.some c.in-Some.ensures.small
    (sym c.shows_growth.ensures ∙ c.if-shows_growth.true) (c.take_growth-self.ensures.shown s.heap.shape stands.growth c.in-Some.ensures.small)

pub returns-then-shows_growth-clause-pages : goal.returns-then-shows_growth-clause-pages
returns-then-shows_growth-clause-pages c = λ entry s stands told on.
    let meter = c.args.self.now.meter in
    grown_pages (model_call c.args.call) entry s c.args.reply.text.now c.args.after (quotas_account c.args.self.now.account) stands.account told
    (amounts_of meter.start) (shown_in meter) (shown_in meter) c.in-Some.n c.in-Some.ensures.some c.in-Some.ensures.small c.take_growth-self.result
    (sym c.shows_growth.ensures ∙ c.if-shows_growth.true) (c.take_growth-self.ensures.pages s.heap.shape stands.growth c.in-Some.ensures.small)

pub returns-else-shows_growth-clause-shown : goal.returns-else-shows_growth-clause-shown
returns-else-shows_growth-clause-shown c = λ entry s stands told.
    let meter = c.args.self.now.meter in
    quiet_shown (model_call c.args.call) entry s c.args.reply.text.now c.args.after (quotas_account c.args.self.now.account) stands.account told
    (amounts_of meter.start) (shown_in meter) (shown_in meter) c.in-Some.n c.in-Some.ensures.some c.in-Some.ensures.small
    (sym c.shows_growth.ensures ∙ c.if-shows_growth.false) refl

pub returns-else-shows_growth-clause-pages : goal.returns-else-shows_growth-clause-pages
returns-else-shows_growth-clause-pages c = λ entry s stands told on.
    let meter = c.args.self.now.meter in
    quiet_pages (model_call c.args.call) entry s c.args.reply.text.now c.args.after (quotas_account c.args.self.now.account) stands.account told
    (amounts_of meter.start) (shown_in meter) (shown_in meter) c.in-Some.n c.in-Some.ensures.some c.in-Some.ensures.small c.args.self.now.pages
    (sym c.shows_growth.ensures ∙ c.if-shows_growth.false) stands.growth

pub returns-in_default-clause-pages : goal.returns-in_default-clause-pages
returns-in_default-clause-pages c = λ entry s stands told on.
    stands.growth ∙ sym (number_left s entry (model_call c.args.call) c.in-None.ensures.none on)
