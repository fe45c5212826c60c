-- The longest one so far.
use Rattle.std.proofs.Common.{◌≡◌, ℕ, ◌<◌, ◌≤◌, true, length}
use Rattle.list_classes.specs.Trees.{has_at, text_at}
use Rattle.list_classes.proofs.text_tree.TextTree.place_of.Given as goal

abbrev pub invariant-loop-place : goal.invariant-loop-place
invariant-loop-place l = record {
  there : l.found < length l.self.texts.items;
  has : has_at l.self.side l.label (text_at l.self.texts.items l.found) ≡ true;
  longest : (k : ℕ) → k < l.place → has_at l.self.side l.label (text_at l.self.texts.items k) ≡ true
      → length (text_at l.self.texts.items k) ≤ length (text_at l.self.texts.items l.found);
}
