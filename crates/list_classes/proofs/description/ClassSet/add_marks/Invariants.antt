-- The marks so far.
use Rattle.std.proofs.Common.{◌≡◌, ℕ, ◌<◌, ◌||◌, length, take}
use Rattle.list_classes.specs.Trees.{has_place}
use Rattle.list_classes.specs.Parts.{is_inside}
use Rattle.list_classes.proofs.description.ClassSet.add_marks.Given as goal

abbrev pub invariant-loop-other : goal.invariant-loop-other
invariant-loop-other l = record {
  size : length l.marks.items ≡ length l.initial.marks.items;
  marks : (other : ℕ) → other < length l.initial.marks.items
      → is_inside l.marks.items other ≡ (is_inside l.initial.marks.items other || has_place (take l.other-index l.other-items) other);
}
