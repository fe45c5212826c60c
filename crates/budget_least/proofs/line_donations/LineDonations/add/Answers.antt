-- The line at the place opens one more session.
use Rattle.std.proofs.Common.{sym, ◌∙◌}
use Rattle.budget_least.proofs.LineDonationLemmas.{one_opened}
use Rattle.budget_least.proofs.line_donations.LineDonations.add.Goals as goal

pub returns-in-Some-get_mut-clause-holds : goal.returns-in-Some-get_mut-clause-holds
returns-in-Some-get_mut-clause-holds c = λ before holds number.
    one_opened before c.args.account.now number c.loop.self.lines.items c.in-Some.session c.in-Some-get_mut.line.now c.with.result (sym c.in-Some.ensures)
    c.in-Some-get_mut.ensures.item.3.0 c.in-Some-get_mut.ensures.value c.with.ensures (c.loop.invariant.kept number ∙ holds number)
