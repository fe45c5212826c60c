-- Marks for no numbers change nothing.
use Rattle.std.proofs.Common.{◌≡◌, ℕ, length}
use Rattle.budget_search.specs.LineNumbers.{has_number}
use Rattle.budget_search.proofs.line_numbers.LineNumbers.add.Given as goal

abbrev pub invariant-loop-end : goal.invariant-loop-end
invariant-loop-end l = record {
  same : (other : ℕ) → has_number l.self other ≡ has_number l.initial.self other;
  end : length l.self.has.items ≡ l.end;
}
