-- The lines of so many components are compared.
use Rattle.std.proofs.Common.{◌≡◌, map}
use Rattle.budget_least.specs.ChangedLines.{changed_below}
use Rattle.budget_least.specs.ComponentLines.{lines_in}
use Rattle.budget_least.specs.declared.changed_line.ChangedLine.{ChangedLine}
use Rattle.budget_least.proofs.lines_by_component.LinesByComponent.changed.Given as goal

abbrev pub invariant-loop-component : goal.invariant-loop-component
invariant-loop-component l = record {
  numbers : map (λ (line : ChangedLine). line.number) l.changed.items ≡ changed_below l.component (lines_in l.self) (lines_in l.other);
}
