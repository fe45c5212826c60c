-- Donations change neither numbers nor texts of lines. The lines of the components before this one have them.
use Rattle.std.proofs.Common.{◌≡◌, List, length}
use Rattle.std.specs.List.{AllByRecursion}
use Rattle.budget_search.specs.declared.account_budgets.AccountBudgets.{AccountBudgets}
use Rattle.budget_least.specs.ComponentLines.{lines_in, AreAllWritten, AreWritten}
use Rattle.budget_least.specs.LineDonations.{HoldsFor, IsDonated}
use Rattle.budget_least.proofs.LineDonationLemmas.{HaveBecome}
use Rattle.budget_least.proofs.lines_by_component.LinesByComponent.donate.Given as goal

abbrev pub invariant-loop-component : goal.invariant-loop-component
invariant-loop-component l = record {
  unmeasured : l.self.unmeasured ≡ l.initial.self.unmeasured;
  count : length l.self.steps.items ≡ length l.initial.self.steps.items;
  lines : lines_in l.self ≡ lines_in l.initial.self;
  donated : (sessions : List AccountBudgets) → HoldsFor l.donations sessions → AreAllWritten l.initial.self.steps.items →
      HaveBecome (λ lines. AllByRecursion (IsDonated l.donations.choice sessions) lines.items) (λ lines. AreWritten lines.items) l.component l.self.steps.items;
}
