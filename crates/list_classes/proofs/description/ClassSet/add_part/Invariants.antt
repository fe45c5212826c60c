-- A new mark is at one of the places so far, and isn't within an exception.
use Rattle.std.proofs.Common.{◌≡◌, ℕ, ◌||◌, true, length}
use Rattle.list_classes.specs.Parts.{covers, is_inside}
use Rattle.list_classes.proofs.description.ClassSet.add_part.Given as goal

abbrev pub invariant-loop-other : goal.invariant-loop-other
invariant-loop-other l = record {
  size : length l.covered.items ≡ length l.initial.covered.items;
  marks : (other : ℕ) → is_inside l.covered.items other ≡ true
      → (is_inside l.initial.covered.items other || covers l.self.classes.now other l.part) ≡ true;
}
