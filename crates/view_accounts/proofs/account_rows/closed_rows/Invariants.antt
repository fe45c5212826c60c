-- The rows of the sessions so far.
use Rattle.std.proofs.Common.{◌≡◌, map, take}
use Rattle.view_accounts.specs.Rows.{session_view}
use Rattle.view_accounts.specs.RunRows.{closed_kept}
use Rattle.view_accounts.proofs.account_rows.closed_rows.Given as goal

abbrev pub invariant-loop-session : goal.invariant-loop-session
invariant-loop-session l = map session_view l.rows.items ≡ closed_kept l.list (take l.session-index l.closed)
