-- The shapes of the parts so far.
use Rattle.std.proofs.Common.{◌≡◌, ℕ, take}
use Rattle.std.proofs.Common.{List}
use Rattle.std.specs.List.{list_any}
use Rattle.list_labels.specs.LabelSets.{is_in}
use Rattle.list_classes.specs.Parts.{is_in_part}
use Rattle.list_classes.proofs.description.ClassSet.shapes.Given as goal

abbrev pub invariant-loop-place : goal.invariant-loop-place
invariant-loop-place l =
    (label : List ℕ) → list_any (is_in label) l.shapes.items ≡ list_any (is_in_part l.self.classes.now label) (take l.place l.parts)
