-- The records so far, and those of the intervals to come.
use Rattle.std.proofs.Common.{◌≡◌, ◌++◌, drop, map}
use Rattle.view_records.specs.JsonTexts.{list_data}
use Rattle.view_records.specs.Lists.{records_of}
use Rattle.cli_budgets.specs.ReportRecords.{interval_record}
use Rattle.cli_budgets.proofs.budget_records.add_intervals.Given as goal

abbrev pub invariant-loop-row : goal.invariant-loop-row
invariant-loop-row l =
    records_of l.records
    ++ map (interval_record l.path (list_data (records_of l.unmeasured)) l.account) (drop l.row-index l.account.found.rows.items)
    ≡ records_of l.fn.records ++ map (interval_record l.path (list_data (records_of l.unmeasured)) l.account) l.account.found.rows.items
