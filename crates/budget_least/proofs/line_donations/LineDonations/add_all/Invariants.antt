-- Account by account.
use Rattle.std.proofs.Common.{◌≡◌, ◌++◌, List, take}
use Rattle.budget_search.specs.declared.account_budgets.AccountBudgets.{AccountBudgets}
use Rattle.budget_least.specs.LineDonations.{HoldsFor}
use Rattle.budget_least.proofs.line_donations.LineDonations.add_all.Given as goal

abbrev pub invariant-loop-account : goal.invariant-loop-account
invariant-loop-account l = record {
  choice : l.self.choice ≡ l.initial.self.choice;
  holds : (before : List AccountBudgets) → HoldsFor l.initial.self before → HoldsFor l.self (before ++ take l.account-index l.accounts);
}
