-- The accounts of so many components, and the sessions of those that are left.
use Rattle.std.proofs.Common.{◌≡◌, ◌+◌, ◌++◌, length}
use Rattle.std.specs.Prelude.{flat_map}
use Rattle.std.specs.Vec.Iter.{into_iter_items, into_iter_len}
use Rattle.budget_least.specs.ComponentAccounts.{AreSessionsFrom}
use Rattle.budget_least.specs.LineDonations.{sessions_in, sessions_of}
use Rattle.budget_least.specs.ReportOf.{HasAccounts}
use Rattle.budget_least.proofs.report.BudgetReport.add_components.Given as goal

abbrev pub invariant-loop-script : goal.invariant-loop-script
invariant-loop-script l = record {
  list : l.self.list ≡ l.initial.self.list;
  choice : l.self.choice ≡ l.initial.self.choice;
  scene : l.self.scene ≡ l.initial.self.scene;
  accounts : HasAccounts l.self l.component;
  left : AreSessionsFrom l.self.list.now l.self.scene.steps.items l.component (into_iter_items l.script-iterator);
  added : sessions_in l.self.accounts.items ++ flat_map sessions_of (into_iter_items l.script-iterator) ≡ flat_map sessions_of (into_iter_items l.initial.script-iterator);
  count : l.component + length (into_iter_items l.script-iterator) ≡ length l.self.list.now.entries;
  exact : into_iter_len l.script-iterator ≡ length (into_iter_items l.script-iterator);
}
