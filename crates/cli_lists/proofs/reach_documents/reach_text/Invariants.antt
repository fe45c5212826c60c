-- The records so far, and those of the cells to come.
use Rattle.std.proofs.Common.{◌≡◌, ◌++◌, drop}
use Rattle.std.specs.List.{flat_map}
use Rattle.view_records.specs.Lists.{records_of}
use Rattle.cli_lists.specs.ReachDocuments.{cell_records, reach_records}
use Rattle.cli_lists.proofs.reach_documents.reach_text.Given as goal

abbrev pub invariant-loop-cell : goal.invariant-loop-cell
invariant-loop-cell l =
    records_of l.records ++ flat_map (cell_records l.list) (drop l.cell-index l.table.cells.items) ≡ reach_records l.list l.table.cells.items
