-- One part more.
use Rattle.std.proofs.Common.{◌≡◌, ◌<◌, get_or, length, subst}
use Rattle.std.specs.List.{flat_map}
use Rattle.view_records.proofs.RecordLemmas.{records_next}
use Rattle.view_records.specs.Lists.{records_of}
use Rattle.view_coverage.specs.Records.{coverage_records, met_records, part_record}
use Rattle.view_coverage.specs.declared.report.CoverageSheet.{CoverageSheet}
use Rattle.view_coverage.proofs.report.CoverageReport.document.Goals as goal

pub loop-part-preserved : goal.loop-part-preserved
loop-part-preserved c =
    let report = c.args.self.now in
    let same = c.deref-part-items.ensures.value in
    let i = c.loop-part.part-index in
    let part = c.part-item.result in
    let within : i < length report.parts.items = subst (λ ps. i < length ps) same c.loop-part-test.true in
    let is : part ≡ get_or report.parts.items i part = subst (λ ps. part ≡ get_or ps i part) same c.part-item.is in
    records_next (part_record report) report.parts.items i part (records_of c.loop-part.records) (records_of c.add_part.new.records)
    (flat_map (λ (sheet : CoverageSheet). flat_map (met_records report sheet) report.parts.items) report.sheets.items)
    (coverage_records report) within is c.in_ok-add_part.ensures c.loop-part.invariant
