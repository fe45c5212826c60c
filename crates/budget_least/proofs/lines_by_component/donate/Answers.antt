-- The line has a donation, or none.
use Rattle.budget_meter.specs.Needs.{amounts_of}
use Rattle.budget_least.proofs.LineDonationLemmas.{is_donated, not_donated}
use Rattle.budget_least.proofs.lines_by_component.donate.Goals as goal

pub returns-in_default-clause-donated : goal.returns-in_default-clause-donated
returns-in_default-clause-donated c = λ sessions holds written.
    not_donated c.args.donations.now.choice sessions c.args.step.now (c.in_default.ensures sessions holds) written

pub returns-clause-donated : goal.returns-clause-donated
returns-clause-donated c = λ sessions holds written.
    is_donated c.args.donations.now.choice sessions c.args.step.now c.donate.new.self (amounts_of c.in-Some.donation) (c.in-Some.ensures sessions holds) written c.in_ok-donate.ensures
