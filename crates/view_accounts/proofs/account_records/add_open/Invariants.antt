-- The records so far and those to come.
use Rattle.std.proofs.Common.{◌≡◌, ◌++◌, drop, map}
use Rattle.std.specs.List.{flat_map}
use Rattle.view_accounts.specs.AccountRecords.{session_record}
use Rattle.view_accounts.specs.Rows.{ComponentView, component_view}
use Rattle.view_records.specs.Lists.{records_of}
use Rattle.view_accounts.proofs.account_records.add_open.Given as goal

abbrev pub invariant-loop-component : goal.invariant-loop-component
invariant-loop-component l =
    records_of l.records ++ flat_map (λ (shown : ComponentView). map session_record shown.sessions) (map component_view (drop l.component-index l.components))
    ≡ records_of l.fn.records ++ flat_map (λ (shown : ComponentView). map session_record shown.sessions) (map component_view l.components)
