-- The text so far and the members of the cells to come make the object.
use Rattle.std.proofs.Common.{◌≡◌, ◌∷◌, ◌++◌, false, drop}
use Rattle.serde_json.specs.Written.{members_text}
use Rattle.view_records.specs.Cells.{cells_data}
use Rattle.view_records.specs.ObjectTexts.{members_in_order}
use Rattle.view_records.proofs.object_text.add_object.Given as goal

abbrev pub invariant-loop-name : goal.invariant-loop-name
invariant-loop-name l =
    l.object.text.items ++ members_text l.object.has_members (members_in_order (cells_data (drop l.name-index l.cells)))
    ≡ l.fn.text.items ++ 123 ∷ members_text false (members_in_order (cells_data l.cells))
