-- The places for the endings so far.
use Rattle.std.proofs.Common.{◌≡◌, ℕ, ◌||◌, take}
use Rattle.list_classes.specs.Trees.{has_place}
use Rattle.list_classes.specs.Parts.{is_for_ends}
use Rattle.list_classes.proofs.description.ClassSet.add_ends.Given as goal

abbrev pub invariant-loop-end : goal.invariant-loop-end
invariant-loop-end l =
    (other : ℕ) → has_place l.places.items other
    ≡ (has_place l.initial.places.items other || is_for_ends l.self.classes.now l.front other (take l.end-index l.ends))
