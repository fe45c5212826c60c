-- By that of the intervals.
use Rattle.std.proofs.Common.{sym, subst}
use Rattle.budget_search.specs.BudgetIntervals.{serves}
use Rattle.budget_search.specs.Sufficient.{HasSafe}
use Rattle.budget_search.proofs.SafeLemmas.{safest_of}
use Rattle.budget_search.proofs.account_budgets.AccountBudgets.safe.Goals as goal

pub returns-clause-safe : goal.returns-clause-safe
returns-clause-safe c = λ most is.
    let rows = c.args.self.now.found.rows.items in
    subst (HasSafe (serves rows) most) (sym c.safe.ensures) (safest_of most rows is)
