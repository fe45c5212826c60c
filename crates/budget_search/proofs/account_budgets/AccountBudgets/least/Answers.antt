-- By that of the intervals.
use Rattle.std.proofs.Common.{sym, subst}
use Rattle.budget_search.specs.BudgetIntervals.{serves}
use Rattle.budget_search.specs.Sufficient.{HasLeast}
use Rattle.budget_search.proofs.OrderLemmas.{least_of}
use Rattle.budget_search.proofs.account_budgets.AccountBudgets.least.Goals as goal

pub returns-clause-least : goal.returns-clause-least
returns-clause-least c = λ most is.
    let rows = c.args.self.now.found.rows.items in
    subst (HasLeast (serves rows) most) (sym c.least.ensures) (least_of most rows is)
