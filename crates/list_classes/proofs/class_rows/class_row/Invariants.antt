use Rattle.list_classes.proofs.RowLemmas.{IsRow}
use Rattle.list_classes.proofs.class_rows.class_row.Given as goal

abbrev pub invariant-loop-end : goal.invariant-loop-end
invariant-loop-end l = IsRow l.classes l.front l.end l.row.items
