-- The records so far and those to come.
use Rattle.std.proofs.Common.{◌≡◌, ◌++◌, drop, map}
use Rattle.std.specs.List.{flat_map}
use Rattle.view_accounts.specs.AccountRecords.{component_records}
use Rattle.view_accounts.specs.Rows.{component_view}
use Rattle.view_records.specs.Lists.{records_of}
use Rattle.view_accounts.proofs.account_records.add_components.Given as goal

abbrev pub invariant-loop-component : goal.invariant-loop-component
invariant-loop-component l =
    records_of l.records ++ flat_map component_records (map component_view (drop l.component-index l.components))
    ≡ records_of l.fn.records ++ flat_map component_records (map component_view l.components)
