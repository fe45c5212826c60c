-- The inits from a place on have what their lists need.
use Rattle.std.proofs.Common.{◌≡◌, ◌≤◌, length}
use Rattle.budget_least.specs.InitNeeds.{AreNeededFrom}
use Rattle.budget_least.specs.ReportOf.{HaveKept}
use Rattle.budget_least.proofs.report.BudgetReport.sum_inits.Given as goal

abbrev pub invariant-loop-place : goal.invariant-loop-place
invariant-loop-place l = record {
  list : l.self.list ≡ l.initial.self.list;
  choice : l.self.choice ≡ l.initial.self.choice;
  scene : l.self.scene ≡ l.initial.self.scene;
  accounts : HaveKept l.initial.self l.self;
  within : l.place ≤ length l.self.list.now.entries;
  needed : AreNeededFrom l.place l.self.choice l.self.list.now l.self.accounts.items;
}

abbrev pub decreases-loop-place : goal.decreases-loop-place
decreases-loop-place l = l.place
