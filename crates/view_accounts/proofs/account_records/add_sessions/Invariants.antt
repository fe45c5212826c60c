-- The records so far and those to come.
use Rattle.std.proofs.Common.{◌≡◌, ◌++◌, drop, map}
use Rattle.view_accounts.specs.AccountRecords.{session_record}
use Rattle.view_accounts.specs.Rows.{session_view}
use Rattle.view_records.specs.Lists.{records_of}
use Rattle.view_accounts.proofs.account_records.add_sessions.Given as goal

abbrev pub invariant-loop-session : goal.invariant-loop-session
invariant-loop-session l =
    records_of l.records ++ map session_record (map session_view (drop l.session-index l.sessions))
    ≡ records_of l.fn.records ++ map session_record (map session_view l.sessions)
