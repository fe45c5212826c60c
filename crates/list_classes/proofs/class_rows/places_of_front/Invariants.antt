use Rattle.std.specs.List.{slice_get}
use Rattle.list_classes.specs.Rows.{has_front}
use Rattle.list_classes.proofs.RowLemmas.{AreThose}
use Rattle.list_classes.proofs.class_rows.places_of_front.Given as goal

abbrev pub invariant-loop-place : goal.invariant-loop-place
invariant-loop-place l = AreThose (λ n. has_front (slice_get l.classes n) l.front) l.place l.places.items
