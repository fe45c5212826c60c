-- The labels of lengths so far are there.
use Rattle.std.proofs.Common.{◌≡◌, ℕ, ◌<◌, ◌≤◌, true, [], length, get_or}
use Rattle.list_labels.specs.KnownLabels.{is_among}
use Rattle.list_classes.specs.Trees.{AreTexts}
use Rattle.list_classes.proofs.text_tree.texts_of.Given as goal

abbrev pub invariant-loop-size : goal.invariant-loop-size
invariant-loop-size l = record {
  once : AreTexts l.texts.items;
  short : 1 < l.size → (k : ℕ) → k < length l.given → length (get_or l.given k []) ≤ 64;
  given : (k : ℕ) → k < length l.given → length (get_or l.given k []) < l.size → is_among l.texts.items (get_or l.given k []) ≡ true;
}
