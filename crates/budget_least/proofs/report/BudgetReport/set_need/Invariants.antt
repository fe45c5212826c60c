-- So many accounts are set.
use Rattle.std.proofs.Common.{◌≡◌, length}
use Rattle.std.specs.Option.{option_map}
use Rattle.budget_meter.specs.Needs.{amounts_of}
use Rattle.budget_least.proofs.NeededLemmas.{AreChangedTo}
use Rattle.budget_least.proofs.report.BudgetReport.set_need.Given as goal

abbrev pub invariant-loop-at : goal.invariant-loop-at
invariant-loop-at l = record {
  list : l.self.list ≡ l.initial.self.list;
  choice : l.self.choice ≡ l.initial.self.choice;
  scene : l.self.scene ≡ l.initial.self.scene;
  count : length l.self.accounts.items ≡ length l.initial.self.accounts.items;
  changed : AreChangedTo l.at l.component (option_map amounts_of l.needed) l.initial.self.accounts.items l.self.accounts.items;
}
