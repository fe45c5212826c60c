-- The lines before a place are compared.
use Rattle.std.proofs.Common.{◌≡◌, ◌++◌, map}
use Rattle.budget_least.specs.ChangedLines.{changed_before}
use Rattle.budget_least.specs.ComponentLines.{lines_of}
use Rattle.budget_least.specs.declared.changed_line.ChangedLine.{ChangedLine}
use Rattle.budget_least.proofs.changed_line.add_changed.Given as goal

abbrev pub invariant-loop-place : goal.invariant-loop-place
invariant-loop-place l = record {
  numbers : map (λ (line : ChangedLine). line.number) l.changed.items
      ≡ map (λ (line : ChangedLine). line.number) l.initial.changed.items ++ changed_before l.place (lines_of l.steps) (lines_of l.others);
}
