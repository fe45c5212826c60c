-- The coverage of all scenarios as records.
use Rattle.std.specs.Prelude.{ℕ, List, [], ◌∷◌, ◌++◌, codes, count_by, if◌then◌else◌, map, string_bytes}
use Rattle.std.specs.List.{flat_map}
use Rattle.std.specs.Option.{unwrap_or}
use Rattle.view_records.specs.Records.{CellData, Record, absent, number, text}
use Rattle.view_coverage.specs.Reported.{list_at, meets_part}
use Rattle.view_coverage.specs.declared.report.CoverageReport.{CoverageReport}
use Rattle.view_coverage.specs.declared.report.CoveragePart.{CoveragePart}
use Rattle.view_coverage.specs.declared.report.CoverageSheet.{CoverageSheet}
use Rattle.view_coverage.specs.declared.report.PartName.{PartName}
use Rattle.view_coverage.specs.declared.report.PartName.TheVariants.{Rule, Request}

abbrev pub kind_of_part : PartName → List ℕ
kind_of_part (Rule name) = codes "rule"
kind_of_part (Request script service) = codes "session"

abbrev pub rule_cell : PartName → CellData
rule_cell (Rule name) = text (string_bytes name)
rule_cell (Request script service) = absent

abbrev pub script_cell : PartName → CellData
script_cell (Rule name) = absent
script_cell (Request script service) = text (string_bytes script)

abbrev pub service_cell : PartName → CellData
service_cell (Rule name) = absent
service_cell (Request script service) = text (string_bytes service)

-- the path of the start list at a place
abbrev pub path_at : CoverageReport → ℕ → List ℕ
path_at report place = unwrap_or (list_at report.lists.items place) []

-- how many scenarios of its start list meet a part
abbrev pub times_of : CoverageReport → CoveragePart → ℕ
times_of report part = count_by (λ (sheet : CoverageSheet). meets_part sheet part) report.sheets.items

-- a rule, or the session requests of a script for a service, with the number of scenarios that meet it
abbrev pub part_record : CoverageReport → CoveragePart → Record
part_record report part =
    (codes "kind", text (kind_of_part part.name)) ∷ (codes "list", text (path_at report part.list))
    ∷ (codes "scenarios", number (times_of report part))
    ∷ (codes "rule", rule_cell part.name) ∷ (codes "script", script_cell part.name) ∷ (codes "service", service_cell part.name) ∷ []

-- a part that a scenario meets
abbrev pub met_record : CoverageReport → CoverageSheet → CoveragePart → Record
met_record report sheet part =
    (codes "kind", text (codes "met")) ∷ (codes "scenario", text (string_bytes sheet.path)) ∷ (codes "list", text (path_at report part.list))
    ∷ (codes "rule", rule_cell part.name) ∷ (codes "script", script_cell part.name) ∷ (codes "service", service_cell part.name) ∷ []

abbrev pub met_records : CoverageReport → CoverageSheet → CoveragePart → List Record
met_records report sheet part = if meets_part sheet part then met_record report sheet part ∷ [] else []

-- each part, and then what each scenario meets
abbrev pub coverage_records : CoverageReport → List Record
coverage_records report =
    map (part_record report) report.parts.items
    ++ flat_map (λ (sheet : CoverageSheet). flat_map (met_records report sheet) report.parts.items) report.sheets.items
