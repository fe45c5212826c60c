-- Gaps are compared one by one.
use Rattle.std.proofs.Common.{rules, ◌≡◌}
use Rattle.std.proofs.lemmas.Slice.Eq.{slice_eq-Decides}
use Rattle.std.specs.Bool.{Decides}
use Rattle.budget_search.specs.declared.budget_intervals.BudgetGap.{BudgetGap}
use Rattle.budget_search.specs.contracts.budget_intervals.BudgetGapPartialEq.TheImpl.{eq-value as equal}
use Rattle.budget_search.proofs.budget_intervals.are_same_gaps.Goals as goal

each : (a b : BudgetGap) → Decides (equal.it a b) (a ≡ b)
each a b = search rules

pub returns : goal.returns
returns c = slice_eq-Decides each c.args.gaps.now c.args.others.now c.eq.result c.eq.ensures
