-- A mark shows that one of the parts so far has a class.
use Rattle.std.proofs.Common.{◌≡◌, ℕ, true, take}
use Rattle.std.specs.List.{list_any}
use Rattle.list_classes.specs.Parts.{covers, is_inside}
use Rattle.list_classes.proofs.description.ClassSet.covered.Given as goal

abbrev pub invariant-loop-place : goal.invariant-loop-place
invariant-loop-place l =
    (other : ℕ) → is_inside l.covered.items other ≡ true → list_any (covers l.self.classes.now other) (take l.place l.parts) ≡ true
