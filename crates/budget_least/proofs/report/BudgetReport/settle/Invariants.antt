-- The report is a draft of this number.
use Rattle.budget_least.specs.ComponentLines.{numbers_in}
use Rattle.budget_least.specs.ReportOf.{IsDraftAt}
use Rattle.budget_least.proofs.report.BudgetReport.settle.Given as goal

abbrev pub invariant-loop-number : goal.invariant-loop-number
invariant-loop-number l = record { draft : IsDraftAt l.question l.start l.number (numbers_in l.self.scene) l.self }
