-- What is left of the lines is still to be added.
use Rattle.std.proofs.Common.{◌≡◌, ◌++◌, drop, map}
use Rattle.budget_least.specs.ComponentLines.{numbers_in}
use Rattle.budget_least.specs.declared.changed_line.ChangedLine.{ChangedLine}
use Rattle.budget_least.proofs.lines_by_component.LinesByComponent.leave_changed.Given as goal

abbrev pub invariant-loop-line : goal.invariant-loop-line
invariant-loop-line l = record {
  steps : l.self.steps ≡ l.initial.self.steps;
  left : numbers_in l.self ++ map (λ (line : ChangedLine). line.number) (drop l.line-index l.changed)
      ≡ numbers_in l.initial.self ++ map (λ (line : ChangedLine). line.number) l.changed;
}
