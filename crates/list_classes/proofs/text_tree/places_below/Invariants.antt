-- The places so far of texts that have the text.
use Rattle.std.proofs.Common.{◌≡◌, ℕ, ◌<◌, true, [], get_or}
use Rattle.list_classes.specs.Trees.{has_at, has_place}
use Rattle.list_classes.proofs.text_tree.places_below.Given as goal

abbrev pub invariant-loop-place : goal.invariant-loop-place
invariant-loop-place l = record {
  within : (other : ℕ) → has_place l.places.items other ≡ true → other < l.place;
  below : (other : ℕ) → other < l.place → has_place l.places.items other ≡ has_at l.side (get_or l.texts other []) l.text;
}
