-- The sessions of so many components.
use Rattle.std.proofs.Common.{◌≡◌, [], length}
use Rattle.std.specs.Prelude.{flat_map}
use Rattle.budget_least.specs.ComponentAccounts.{AreSessionsFrom}
use Rattle.budget_least.specs.LineDonations.{sessions_of, HoldsFor}
use Rattle.budget_least.proofs.report.BudgetReport.sessions.Given as goal

abbrev pub invariant-loop-component : goal.invariant-loop-component
invariant-loop-component l = record {
  sessions : AreSessionsFrom l.self.list.now l.self.scene.steps.items 0 l.scripts.items;
  holds : HoldsFor l.initial.donations [] → HoldsFor l.donations (flat_map sessions_of l.scripts.items);
  choice : l.donations.choice ≡ l.initial.donations.choice;
  count : length l.scripts.items ≡ l.component;
}
