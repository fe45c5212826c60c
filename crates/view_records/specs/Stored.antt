-- The records that a list keeps.
use Rattle.std.specs.Prelude.{ℕ, List, map}
use Rattle.std.specs.Borrow.{Bor}
use Rattle.serde_json.specs.View.{view}
use Rattle.view_records.specs.Records.{CellData, Record, absent, null, text, number, list}
use Rattle.view_records.specs.declared.stored_cell.StoredCell.{StoredCell}
use Rattle.view_records.specs.declared.stored_cell.StoredCell.TheVariants as stored

abbrev pub stored_data : StoredCell → CellData
stored_data stored.Absent = absent
stored_data stored.Null = null
stored_data (stored.Text t) = text t.items
stored_data (stored.Number n) = number n
stored_data (stored.List nested) = list (view nested.value)

abbrev pub record_data : List (Bor (List ℕ) × StoredCell) → Record
record_data cells = map (λ c. (c.0.now, stored_data c.1)) cells
