-- The sessions of a script, or none.
use Rattle.std.proofs.Common.{◌++◌, append-nil, sym, subst}
use Rattle.budget_least.specs.LineDonations.{sessions_of, HoldsFor}
use Rattle.budget_least.proofs.report_accounts.add_donations.Goals as goal

pub returns-in-None-clause-holds : goal.returns-in-None-clause-holds
returns-in-None-clause-holds c = λ before holds.
    subst (λ script. HoldsFor c.args.donations.now (before ++ sessions_of script)) (sym c.in-None.is)
    (subst (HoldsFor c.args.donations.now) (sym (append-nil before)) holds)
