-- The cells that a caller writes.
use Rattle.std.specs.Prelude.{ℕ, List, map}
use Rattle.std.specs.Borrow.{Bor}
use Rattle.view_records.specs.Records.{CellData, Record, absent, null, text, number, list}
use Rattle.view_records.specs.JsonTexts.{list_data}
use Rattle.view_records.specs.Lists.{records_of}
use Rattle.view_records.specs.declared.cell.Cell.{Cell}
use Rattle.view_records.specs.declared.cell.Cell.TheVariants as cell

abbrev pub cell_data : Cell → CellData
cell_data cell.Absent = absent
cell_data cell.Null = null
cell_data (cell.Word t) = text t.now
cell_data (cell.Text t) = text t.now
cell_data (cell.Number n) = number n
cell_data (cell.List records) = list (list_data (records_of records.now))

abbrev pub cells_data : List (Bor (List ℕ) × Cell) → Record
cells_data cells = map (λ c. (c.0.now, cell_data c.1)) cells
