-- What the lines that are left end with is what all lines do.
use Rattle.std.proofs.Common.{◌≡◌, drop}
use Rattle.budget_least.specs.ComponentLines.{reading, AreAllWritten, AreRead, Reading}
use Rattle.budget_least.proofs.ReadingLemmas.{bytes_of}
use Rattle.budget_least.proofs.lines_by_component.LinesByComponent.add_lines.Given as goal

abbrev pub invariant-loop-line : goal.invariant-loop-line
invariant-loop-line l = record {
  left : (end : Reading) → AreRead (bytes_of (drop l.line-index l.lines)) (reading l.run l.self) end →
      AreRead (bytes_of l.lines) (reading l.initial.run l.initial.self) end;
  list : l.run.list ≡ l.initial.run.list;
  written : AreAllWritten l.initial.self.steps.items → AreAllWritten l.self.steps.items;
}
