-- The marks for the places so far.
use Rattle.std.proofs.Common.{◌≡◌, ℕ, ◌<◌, length, take}
use Rattle.list_classes.specs.Parts.{is_inside, is_within_any}
use Rattle.list_classes.proofs.description.ClassSet.marks.Given as goal

abbrev pub invariant-loop-place : goal.invariant-loop-place
invariant-loop-place l = record {
  size : length l.marks.items ≡ l.size;
  marks : (other : ℕ) → other < l.size → is_inside l.marks.items other ≡ is_within_any l.self.classes.now (take l.place-index l.places) other;
}
