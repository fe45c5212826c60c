-- The rows of what so many selectors name.
use Rattle.std.proofs.Common.{◌≡◌, map}
use Rattle.view_accounts.specs.Rows.{session_view}
use Rattle.view_accounts.specs.RunRows.{in_turn, measures_kept, session_rows}
use Rattle.view_accounts.proofs.account_rows.sessions_rows.Given as goal

abbrev pub invariant-loop-selector : goal.invariant-loop-selector
invariant-loop-selector g l = map session_view l.rows.items ≡ in_turn (session_rows l.list (measures_kept l.observer l.list) l.core l.component) l.selector
