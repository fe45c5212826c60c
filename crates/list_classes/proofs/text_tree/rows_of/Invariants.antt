-- The rows of the texts so far.
use Rattle.std.proofs.Common.{◌≡◌, ℕ, ◌<◌, true, length}
use Rattle.list_classes.specs.Trees.{has_at, has_place, row_at, text_at}
use Rattle.list_classes.proofs.text_tree.rows_of.Given as goal

abbrev pub invariant-loop-place : goal.invariant-loop-place
invariant-loop-place l = record {
  rows : length l.rows.items ≡ l.place;
  within : (place other : ℕ) → has_place (row_at l.rows.items place) other ≡ true → other < length l.texts;
  below : (place other : ℕ) → place < l.place → other < length l.texts
      → has_place (row_at l.rows.items place) other ≡ has_at l.side (text_at l.texts other) (text_at l.texts place);
}
