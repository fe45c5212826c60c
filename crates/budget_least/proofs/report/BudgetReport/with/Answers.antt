-- The accounts for lines, and then what inits need.
use Rattle.std.proofs.Common.{ap, Bor}
use Rattle.own_model.specs.Listed.{Listed}
use Rattle.budget_least.proofs.DraftLemmas.{drafted}
use Rattle.budget_search.proofs.FaultLemmas.{passed_on}
use Rattle.budget_least.proofs.report.BudgetReport.with.Goals as goal

pub returns-clause-draft : goal.returns-clause-draft
returns-clause-draft c = λ start budgets read.
    let accounts = c.in_ok-add_accounts.ensures in
    let needs = c.in_ok-sum_inits.ensures in
    drafted c.args.question start budgets c.args.lines c.add_accounts.new.self c.sum_inits.new.self (ap (λ (list : Bor Listed). list.now) c.add_accounts.ensures.list)
    c.add_accounts.ensures.choice accounts.unmeasured accounts.lines accounts.accounts accounts.donations c.sum_inits.ensures.list c.sum_inits.ensures.choice c.sum_inits.ensures.scene
    needs.accounts needs.needed read

pub returns-in_err-add_accounts-clause-fault : goal.returns-in_err-add_accounts-clause-fault
returns-in_err-add_accounts-clause-fault c =
    passed_on _ _ c.from_residual.result c.from_residual.ensures.1 c.in_err-add_accounts.ensures.fault
