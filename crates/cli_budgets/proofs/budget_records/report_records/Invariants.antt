-- The records so far, and those of the accounts to come.
use Rattle.std.proofs.Common.{◌≡◌, ◌++◌, drop}
use Rattle.std.specs.List.{flat_map}
use Rattle.budget_least.specs.Report.{accounts_of}
use Rattle.view_records.specs.Lists.{records_of}
use Rattle.cli_budgets.specs.ReportRecords.{account_records}
use Rattle.cli_budgets.proofs.budget_records.report_records.Given as goal

abbrev pub invariant-loop-account : goal.invariant-loop-account
invariant-loop-account l =
    records_of l.records ++ flat_map (account_records l.report) (drop l.account-index (accounts_of l.report))
    ≡ flat_map (account_records l.report) (accounts_of l.report)
