-- An error is passed on.
use Rattle.std.proofs.Common.{sym, subst, ◌∙◌}
use Rattle.budget_search.specs.Alike.{given_in}
use Rattle.budget_search.specs.OwnLines.{lines_as_written}
use Rattle.budget_least.specs.ComponentAccounts.{IsSessionsOf}
use Rattle.budget_least.proofs.report_accounts.accounts_of.Goals as goal

pub returns-in-Some-of-clause-fault : goal.returns-in-Some-of-clause-fault
returns-in-Some-of-clause-fault c =
    rw c.in-Some-of.ensures.list at c.script_accounts.ensures.fault

pub script_accounts-requires-clause-refused : goal.script_accounts-requires-clause-refused
script_accounts-requires-clause-refused c =
    let is = c.in-Some-of.ensures in
    (subst (IsSessionsOf c.args.list.now c.args.component c.args.steps.now) c.in-Some.is c.requires.sessions).refused
    ∙ (λ i. (lines_as_written (sym is.list i) (sym is.component i) c.args.steps.now (given_in (sym is.list i) (sym is.component i))).refused)
