use Rattle.std.proofs.Common.{take}
use Rattle.std.specs.List.{slice_get}
use Rattle.list_classes.specs.Rows.{has_end}
use Rattle.list_classes.proofs.RowLemmas.{AreAmong}
use Rattle.list_classes.proofs.class_rows.places_of_end.Given as goal

abbrev pub invariant-loop-at : goal.invariant-loop-at
invariant-loop-at l = AreAmong (λ n. has_end (slice_get l.classes n) l.end) (take l.at l.among) l.places.items
