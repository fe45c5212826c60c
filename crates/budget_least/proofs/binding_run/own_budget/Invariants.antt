-- The budget is that of the accounts that are left.
use Rattle.std.proofs.Common.{◌≡◌, drop}
use Rattle.budget_least.specs.BoundRuns.{own_budget}
use Rattle.budget_least.proofs.binding_run.own_budget.Given as goal

abbrev pub invariant-loop-account : goal.invariant-loop-account
invariant-loop-account l = own_budget l.choice (drop l.account-index l.accounts) l.component ≡ own_budget l.choice l.accounts l.component
