-- Only budgets so far.
use Rattle.budget_least.specs.ValueWriters.{values_of}
use Rattle.budget_least.specs.WrittenList.{AreSizes}
use Rattle.budget_least.proofs.report.BudgetReport.list_with.Given as goal

abbrev pub invariant-loop-account : goal.invariant-loop-account
invariant-loop-account l = AreSizes (values_of l.sizes.values.items)
