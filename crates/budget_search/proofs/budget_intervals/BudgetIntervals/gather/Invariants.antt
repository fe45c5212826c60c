-- What the rows cover so far, and what the runs to come will, is all.
use Rattle.std.proofs.Common.{◌≡◌, ℕ, ◌+◌, ◌≤◌, suc, reverse, Bool, List}
use Rattle.std.specs.Prelude.{Some}
use Rattle.own_model.specs.Amounts.{Amounts}
use Rattle.list_parser.specs.declared.fault.BootFault.{BootFault}
use Rattle.budget_theorems.specs.Need.{Need}
use Rattle.budget_theorems.specs.Intervals.{is_covered, stretches}
use Rattle.budget_search.specs.BudgetIntervals.{covered_with, AreOrdered, AreRows, BeginFrom, HasHighest}
use Rattle.budget_search.specs.RunLines.{RunLines}
use Rattle.budget_search.proofs.budget_intervals.BudgetIntervals.gather.Given as goal

abbrev pub invariant-loop-made : goal.invariant-loop-made
invariant-loop-made g l = record {
  caps : g.T.BudgetTrials.caps l.trials ≡ g.T.BudgetTrials.caps l.initial.trials;
  rest : g.T.BudgetTrials.rest l.trials ≡ g.T.BudgetTrials.rest l.initial.trials;
  runs : (each : Amounts → List Need) (want : Amounts → Bool) → g.T.BudgetTrials.AreRuns l.initial.trials each want → g.T.BudgetTrials.AreRuns l.trials each want;
  same : (ram : ℕ) (fault : BootFault) → g.T.BudgetTrials.fails l.trials ram fault → g.T.BudgetTrials.fails l.initial.trials ram fault;
  within : (each : Amounts → List Need) (want : Amounts → Bool) → g.T.BudgetTrials.AreRuns l.initial.trials each want → l.ram ≤ l.top;
  rows : (each : Amounts → List Need) (want : Amounts → Bool) → g.T.BudgetTrials.AreRuns l.initial.trials each want → AreRows l.self.rows.items;
  ordered : (each : Amounts → List Need) (want : Amounts → Bool) → g.T.BudgetTrials.AreRuns l.initial.trials each want →
      AreOrdered (g.T.BudgetTrials.caps l.initial.trials) l.top (reverse l.self.rows.items);
  above : (each : Amounts → List Need) (want : Amounts → Bool) → g.T.BudgetTrials.AreRuns l.initial.trials each want →
      BeginFrom (suc l.ram) (reverse l.self.rows.items);
  all : (each : Amounts → List Need) (want : Amounts → Bool) → g.T.BudgetTrials.AreRuns l.initial.trials each want → (budget : Amounts) → budget.ram ≤ l.top →
      (left : ℕ) → l.made + left ≡ suc l.top →
      covered_with each want (g.T.BudgetTrials.caps l.initial.trials) l.self.rows.items left (Some l.ram) budget
      ≡ is_covered (stretches each want (g.T.BudgetTrials.caps l.initial.trials) (suc l.top) l.top) budget;
  lines : (lines : Amounts → RunLines) → g.T.BudgetTrials.AreLines l.initial.trials lines → g.T.BudgetTrials.AreLines l.trials lines;
  highest : (lines : Amounts → RunLines) → g.T.BudgetTrials.AreLines l.initial.trials lines →
      HasHighest l.ram l.top (lines (record { ram = l.top; caps = g.T.BudgetTrials.caps l.initial.trials })).refused l.self.refused;
  holes : l.self.holes ≡ l.initial.self.holes;
  left_out : l.self.left_out ≡ l.initial.self.left_out;
}
