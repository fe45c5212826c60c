-- The records so far, and those of the parts to come.
use Rattle.std.proofs.Common.{◌≡◌, ◌++◌, drop}
use Rattle.std.specs.List.{flat_map}
use Rattle.view_records.specs.Lists.{records_of}
use Rattle.view_coverage.specs.Records.{met_records}
use Rattle.view_coverage.proofs.records.add_sheet.Given as goal

abbrev pub invariant-loop-part : goal.invariant-loop-part
invariant-loop-part l =
    records_of l.records ++ flat_map (met_records l.report l.sheet) (drop l.part-index l.report.parts.items)
    ≡ records_of l.fn.records ++ flat_map (met_records l.report l.sheet) l.report.parts.items
