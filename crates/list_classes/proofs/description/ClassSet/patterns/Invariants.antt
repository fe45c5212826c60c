-- The patterns of the classes so far.
use Rattle.std.proofs.Common.{◌≡◌, ℕ, take}
use Rattle.std.proofs.Common.{List}
use Rattle.std.specs.List.{list_any}
use Rattle.list_labels.specs.LabelSets.{has_label}
use Rattle.list_classes.specs.Parts.{has_any_pattern}
use Rattle.list_classes.proofs.description.ClassSet.patterns.Given as goal

abbrev pub invariant-loop-place : goal.invariant-loop-place
invariant-loop-place l =
    (label : List ℕ) → list_any (has_label label) l.patterns.items
    ≡ has_any_pattern l.self.classes.now l.class.front l.class.end label (take l.place-index l.places)
