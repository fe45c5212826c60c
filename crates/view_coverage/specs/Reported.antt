-- The coverage of all scenarios.
use Rattle.std.specs.Prelude.{ℕ, ◌==◌, ◌&&◌, ◌*◌, ◌+◌, Bool, false, List, [], ◌∷◌, ◌++◌, length, map, nat_lt, position, String, string_bytes, Option, Some, None}
use Rattle.std.specs.Global.{Global}
use Rattle.std.specs.List.{list_any, slice_get}
use Rattle.std.specs.Option.{option_and_then, option_map, unwrap_or}
use Rattle.std.specs.Str.{bytes_eq}
use Rattle.own_model.specs.Listed.{Listed}
use Rattle.view_coverage.specs.Names.{names_by, names_in}
use Rattle.view_coverage.specs.declared.report.CoverageReport.{CoverageReport}
use Rattle.view_coverage.specs.declared.report.CoveragePart.{CoveragePart}
use Rattle.view_coverage.specs.declared.report.CoverageSheet.{CoverageSheet}
use Rattle.view_coverage.specs.declared.row.CoverageRow.{CoverageRow}

-- the row at a place is met in a scenario
abbrev pub is_met_in : CoverageSheet → ℕ → Bool
is_met_in sheet place = unwrap_or (option_map (λ (row : CoverageRow). row.met) (slice_get sheet.rows.items place)) false

-- a scenario is of the start list of a part, and meets its row
abbrev pub meets_part : CoverageSheet → CoveragePart → Bool
meets_part sheet part = (sheet.list == part.list) && is_met_in sheet part.place

-- the path of the start list at a place
abbrev pub list_at : List (String Global) → ℕ → Option (List ℕ)
list_at lists place = option_map (λ (path : String Global). string_bytes path) (slice_get lists place)

-- the path of the start list of the scenario with this number, from 0 on
abbrev pub list_of_scenario : CoverageReport → ℕ → Option (List ℕ)
list_of_scenario report number =
    option_and_then (λ (sheet : CoverageSheet). list_at report.lists.items sheet.list) (slice_get report.sheets.items number)

-- ---- rules and session requests

-- a part of a start list: the place of the start list, that of the row, and its names
abbrev pub Part : Type 0
Part = ℕ × ℕ × List (List ℕ)

abbrev pub part_of : CoveragePart → Part
part_of part = (part.list, part.place, names_in part.name)

-- the parts of the start list at a place, one for each row, where the first row is at this place
abbrev pub parts_from : Listed → ℕ → ℕ → List CoverageRow → List Part
parts_from start list place [] = []
parts_from start list place (row ∷ rows) =
    (list, place, names_by start row.event) ∷ parts_from start list (place + 1) rows

-- a scenario of its start list meets the row of a part
abbrev pub is_covered : List CoverageSheet → CoveragePart → Bool
is_covered sheets part = list_any (λ sheet. meets_part sheet part) sheets

-- fewer than so many percent of all are covered
abbrev pub falls_short : ℕ → ℕ → ℕ → Bool
falls_short percent covered all = nat_lt (covered * 100) (percent * all)

-- ---- a scenario is added

-- the place of the start list of a path
abbrev pub place_of : List (String Global) → List ℕ → Option ℕ
place_of lists path = position (λ list. bytes_eq (string_bytes list) path) lists

-- what a start list adds, if it isn't there yet
abbrev pub if_new : {X : Type 0} → Option ℕ → List X → List X
if_new (Some place) more = []
if_new None more = more

abbrev pub paths_in : CoverageReport → List (List ℕ)
paths_in report = map (λ list. string_bytes list) report.lists.items

abbrev pub parts_in : CoverageReport → List Part
parts_in report = map part_of report.parts.items

abbrev pub rows_in : CoverageReport → List (List CoverageRow)
rows_in report = map (λ sheet. sheet.rows.items) report.sheets.items

-- the paths and the parts with those of the start list of a path: each start list is there once
abbrev pub paths_with : CoverageReport → List ℕ → List (List ℕ)
paths_with report path = paths_in report ++ if_new (place_of report.lists.items path) (path ∷ [])

abbrev pub parts_with : CoverageReport → Listed → List ℕ → List CoverageRow → List Part
parts_with report list path rows =
    parts_in report ++ if_new (place_of report.lists.items path) (parts_from list (length report.lists.items) 0 rows)
