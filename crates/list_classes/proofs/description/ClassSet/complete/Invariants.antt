-- The parts are parts, and each class that is marked or is inside so far has one.
use Rattle.std.proofs.Common.{◌≡◌, ℕ, ◌<◌, true}
use Rattle.std.specs.Prelude.{All}
use Rattle.list_classes.specs.Parts.{IsPart, is_inside, is_served}
use Rattle.list_classes.proofs.description.ClassSet.complete.Given as goal

abbrev pub invariant-loop-place : goal.invariant-loop-place
invariant-loop-place l = record {
  parts : All (IsPart l.self.classes.now l.self.inside.now) l.initial.parts.items
      → All (IsPart l.self.classes.now l.self.inside.now) l.parts.items;
  marked : (other : ℕ) → is_inside l.covered.items other ≡ true → is_served l.self.classes.now other l.parts.items ≡ true;
  all : (other : ℕ) → other < l.place → is_inside l.self.inside.now other ≡ true
      → is_served l.self.classes.now other l.parts.items ≡ true;
}
