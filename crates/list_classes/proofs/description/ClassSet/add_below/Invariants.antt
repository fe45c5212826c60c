-- The places for the beginnings so far.
use Rattle.std.proofs.Common.{◌≡◌, ℕ, ◌||◌, take}
use Rattle.std.specs.List.{list_any}
use Rattle.list_classes.specs.Trees.{has_place}
use Rattle.list_classes.specs.Parts.{is_for_ends}
use Rattle.list_classes.proofs.description.ClassSet.add_below.Given as goal

abbrev pub invariant-loop-front : goal.invariant-loop-front
invariant-loop-front l =
    (other : ℕ) → has_place l.places.items other
    ≡ (has_place l.initial.places.items other
    || list_any (λ front. is_for_ends l.self.classes.now front other l.ends) (take l.front-index l.front-items))
