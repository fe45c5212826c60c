-- Each of the labels so far is short, and is there if it has the length.
use Rattle.std.proofs.Common.{◌≡◌, ℕ, ◌<◌, ◌≤◌, true, List, [], length, get_or}
use Rattle.list_labels.specs.KnownLabels.{is_among}
use Rattle.list_classes.specs.Trees.{AreTexts}
use Rattle.list_classes.proofs.text_tree.add_new.Given as goal

abbrev pub invariant-loop-place : goal.invariant-loop-place
invariant-loop-place l = record {
  once : AreTexts l.initial.texts.items → AreTexts l.texts.items;
  stays : (text : List ℕ) → is_among l.initial.texts.items text ≡ true → is_among l.texts.items text ≡ true;
  short : (k : ℕ) → k < l.place → length (get_or l.given k []) ≤ 64;
  added : (k : ℕ) → k < l.place → length (get_or l.given k []) ≡ l.size → is_among l.texts.items (get_or l.given k []) ≡ true;
}
