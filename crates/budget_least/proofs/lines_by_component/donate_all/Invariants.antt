-- Donations change neither numbers nor texts of lines. The lines before the place have them.
use Rattle.std.proofs.Common.{◌≡◌, List, length}
use Rattle.budget_search.specs.declared.account_budgets.AccountBudgets.{AccountBudgets}
use Rattle.budget_least.specs.ComponentLines.{lines_of, AreWritten, IsAsWritten}
use Rattle.budget_least.specs.LineDonations.{HoldsFor, IsDonated}
use Rattle.budget_least.proofs.LineDonationLemmas.{HaveBecome}
use Rattle.budget_least.proofs.lines_by_component.donate_all.Given as goal

abbrev pub invariant-loop-place : goal.invariant-loop-place
invariant-loop-place l = record {
  count : length l.steps.items ≡ length l.initial.steps.items;
  lines : lines_of l.steps.items ≡ lines_of l.initial.steps.items;
  donated : (sessions : List AccountBudgets) → HoldsFor l.donations sessions → AreWritten l.initial.steps.items →
      HaveBecome (IsDonated l.donations.choice sessions) IsAsWritten l.place l.steps.items;
}
