-- A table of reach as records: one for each cell.
use Rattle.std.specs.Prelude.{◌≡◌, ℕ, List, [], ◌∷◌, codes, flat_map, map, All, Option, Some, None}
use Rattle.std.specs.List.{slice_get}
use Rattle.own_model.specs.Listed.{Listed, ListedEntry}
use Rattle.list_reach.specs.Paths.{is_chosen}
use Rattle.list_reach.specs.Rows.{row_of, rows}
use Rattle.list_reach.specs.Table.{IsTrue}
use Rattle.list_reach.specs.declared.client_reach.Reach.{Reach}
use Rattle.list_reach.specs.declared.client_reach.Reach.TheVariants.{Always, By, Never}
use Rattle.list_reach.specs.declared.reach_cell.ReachCell.{ReachCell}
use Rattle.list_reach.specs.declared.reach_filter.ReachFilter.{ReachFilter}
use Rattle.list_diff.specs.LabelRecords.{label_records}
use Rattle.view_records.specs.JsonTexts.{json_text, list_data}
use Rattle.view_records.specs.Records.{CellData, Record, list, null, text}

-- whether all, some or no labels reach the server
abbrev pub reach_word : Reach → List ℕ
reach_word Always = codes "always"
reach_word (By label) = codes "some"
reach_word Never = codes "none"

-- a shortest label, if not all or none do
abbrev pub label_cell : Reach → CellData
label_cell Always = null
label_cell (By label) = text label
label_cell Never = null

-- a shortest label, if any does
abbrev pub witness_cell : Reach → CellData
witness_cell Always = text []
witness_cell (By label) = text label
witness_cell Never = null

abbrev pub cell_record : ListedEntry → ReachCell → ListedEntry → Record
cell_record client cell server =
    (codes "from", text client.path) ∷ (codes "service", text cell.service.now) ∷ (codes "to", text server.path)
    ∷ (codes "reach", text (reach_word cell.reach)) ∷ (codes "label", label_cell cell.reach) ∷ (codes "labels", list (list_data (label_records cell.labels)))
    ∷ (codes "witness", witness_cell cell.reach) ∷ []

-- the record of a cell, if its client and its server are components of the list
abbrev pub record_by : Option ListedEntry → ReachCell → Option ListedEntry → List Record
record_by (Some client) cell (Some server) = cell_record client cell server ∷ []
record_by None cell server = []
record_by (Some client) cell None = []

abbrev pub cell_records : Listed → ReachCell → List Record
cell_records start cell = record_by (slice_get start.entries cell.client) cell (slice_get start.entries cell.server)

abbrev pub reach_records : Listed → List ReachCell → List Record
reach_records start cells = flat_map (cell_records start) cells

-- the table of the scripts and servers that a filter selects is listed, cell by cell
abbrev pub IsReachText : Listed → ReachFilter → List ℕ → Type 0
IsReachText start chosen printed =
    (cells : List ReachCell) × (map row_of cells ≡ rows start (is_chosen chosen.from.items) (is_chosen chosen.to.items))
    × All (IsTrue start) cells × (printed ≡ json_text (reach_records start cells))
