-- The accounts of the next component come after those before it.
use Rattle.std.proofs.Common.{◌++◌, ap, ◌∙◌}
use Rattle.budget_least.proofs.AccountLemmas.{joined}
use Rattle.budget_least.proofs.SessionLemmas.{joined_sessions}
use Rattle.budget_least.specs.LineDonations.{sessions_in}
use Rattle.budget_search.proofs.FaultLemmas.{passed_on}
use Rattle.budget_least.proofs.report.BudgetReport.add_component.Goals as goal

pub returns-clause-accounts : goal.returns-clause-accounts
returns-clause-accounts c =
    let self = c.args.self.now in
    joined self.list.now self.scene.steps.items c.args.component c.of-steps.result.now self.accounts.items c.in_ok-accounts.accounts.items c.add_all.new.accounts.items
    c.of-steps.ensures.steps c.in_ok-add_all.ensures c.requires.before c.in_ok-accounts.ensures.accounts

pub returns-in_err-accounts-clause-fault : goal.returns-in_err-accounts-clause-fault
returns-in_err-accounts-clause-fault c =
    passed_on _ _ c.from_residual.result c.from_residual.ensures.1 c.in_err-accounts.ensures.fault

pub returns-clause-added : goal.returns-clause-added
returns-clause-added c =
    let was = c.args.self.now.accounts.items in
    joined_sessions was c.in_ok-accounts.accounts.items c.add_all.new.accounts.items c.in_ok-add_all.ensures
    ∙ ap (λ more. sessions_in was ++ more) c.in_ok-accounts.ensures.sessions
