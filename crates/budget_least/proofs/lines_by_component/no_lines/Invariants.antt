-- So many components have no line.
use Rattle.std.proofs.Common.{◌≡◌, ◌≤◌, [], map}
use Rattle.std.specs.Prelude.{replicate}
use Rattle.budget_least.specs.ComponentLines.{lines_of, AreAllWritten}
use Rattle.budget_least.proofs.lines_by_component.no_lines.Given as goal

abbrev pub invariant-loop-count : goal.invariant-loop-count
invariant-loop-count l = record {
  all : map (λ lines. lines_of lines.items) l.steps.items ≡ replicate l.count [];
  written : AreAllWritten l.steps.items;
  within : l.count ≤ l.components;
}
