use Rattle.list_classes.proofs.RowLemmas.{AreRows}
use Rattle.list_classes.proofs.class_rows.class_rows.Given as goal

abbrev pub invariant-loop-front : goal.invariant-loop-front
invariant-loop-front l = AreRows l.classes l.ends l.front l.rows.items
