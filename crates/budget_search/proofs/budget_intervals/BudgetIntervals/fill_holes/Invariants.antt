-- The runs are those of the same calls, with the same errors. The gaps so far, and those of the intervals to come, are all.
use Rattle.std.proofs.Common.{◌≡◌, ◌++◌, Bool, List, ℕ, None, drop}
use Rattle.own_model.specs.Amounts.{Amounts}
use Rattle.list_parser.specs.declared.fault.BootFault.{BootFault}
use Rattle.budget_theorems.specs.Need.{Need}
use Rattle.budget_search.specs.BudgetIntervals.{gaps_after}
use Rattle.budget_search.specs.RunLines.{RunLines}
use Rattle.budget_search.proofs.budget_intervals.BudgetIntervals.fill_holes.Given as goal

abbrev pub invariant-loop-row : goal.invariant-loop-row
invariant-loop-row g l = record {
  rest : g.T.BudgetTrials.rest l.trials ≡ g.T.BudgetTrials.rest l.initial.trials;
  runs : (each : Amounts → List Need) (want : Amounts → Bool) → g.T.BudgetTrials.AreRuns l.initial.trials each want → g.T.BudgetTrials.AreRuns l.trials each want;
  same : (ram : ℕ) (fault : BootFault) → g.T.BudgetTrials.fails l.trials ram fault → g.T.BudgetTrials.fails l.initial.trials ram fault;
  caps : g.T.BudgetTrials.caps l.trials ≡ g.T.BudgetTrials.caps l.initial.trials;
  lines : (lines : Amounts → RunLines) → g.T.BudgetTrials.AreLines l.initial.trials lines → g.T.BudgetTrials.AreLines l.trials lines;
  gaps : (lines : Amounts → RunLines) → g.T.BudgetTrials.AreLines l.initial.trials lines →
      l.self.1.1.0.items ++ gaps_after lines (g.T.BudgetTrials.caps l.initial.trials) l.end (drop l.row-index l.row-items)
      ≡ gaps_after lines (g.T.BudgetTrials.caps l.initial.trials) None l.row-items;
}
