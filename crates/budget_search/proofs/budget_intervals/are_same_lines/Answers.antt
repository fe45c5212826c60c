-- Lines are compared one by one.
use Rattle.std.proofs.Common.{rules, ◌≡◌}
use Rattle.std.proofs.lemmas.Slice.Eq.{slice_eq-Decides}
use Rattle.std.specs.Bool.{Decides}
use Rattle.budget_search.specs.declared.trial.SkippedLine.{SkippedLine}
use Rattle.budget_search.specs.contracts.trial.SkippedLinePartialEq.TheImpl.{eq-value as equal}
use Rattle.budget_search.proofs.budget_intervals.are_same_lines.Goals as goal

each : (a b : SkippedLine) → Decides (equal.it a b) (a ≡ b)
each a b = search rules

pub returns : goal.returns
returns c = slice_eq-Decides each c.args.lines.now c.args.others.now c.eq.result c.eq.ensures
