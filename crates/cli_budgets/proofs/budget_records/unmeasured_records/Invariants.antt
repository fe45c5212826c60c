-- The records so far, and those of the lines to come.
use Rattle.std.proofs.Common.{◌≡◌, ◌++◌, drop, map}
use Rattle.view_records.specs.Lists.{records_of}
use Rattle.cli_budgets.specs.ReportRecords.{named_lines, unmeasured_record}
use Rattle.cli_budgets.proofs.budget_records.unmeasured_records.Given as goal

abbrev pub invariant-loop-line : goal.invariant-loop-line
invariant-loop-line l =
    records_of l.records ++ map unmeasured_record (named_lines l.account (drop l.line-index l.lines))
    ≡ map unmeasured_record (named_lines l.account l.lines)
