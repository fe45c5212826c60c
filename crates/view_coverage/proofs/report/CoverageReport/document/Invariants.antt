-- The records so far, and those of the parts and of the scenarios to come.
use Rattle.std.proofs.Common.{◌≡◌, ◌++◌, drop, map}
use Rattle.std.specs.List.{flat_map}
use Rattle.view_records.specs.Lists.{records_of}
use Rattle.view_coverage.specs.Records.{coverage_records, met_records, part_record}
use Rattle.view_coverage.specs.declared.report.CoverageSheet.{CoverageSheet}
use Rattle.view_coverage.proofs.report.CoverageReport.document.Given as goal

abbrev pub invariant-loop-part : goal.invariant-loop-part
invariant-loop-part l =
    records_of l.records ++ (map (part_record l.self) (drop l.part-index l.self.parts.items)
    ++ flat_map (λ (sheet : CoverageSheet). flat_map (met_records l.self sheet) l.self.parts.items) l.self.sheets.items)
    ≡ coverage_records l.self

abbrev pub invariant-loop-sheet : goal.invariant-loop-sheet
invariant-loop-sheet l =
    records_of l.records
    ++ flat_map (λ (sheet : CoverageSheet). flat_map (met_records l.self sheet) l.self.parts.items) (drop l.sheet-index l.self.sheets.items)
    ≡ coverage_records l.self
