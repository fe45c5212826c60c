-- Those so far, and behind them those to come.
use Rattle.std.proofs.Common.{◌≡◌, ◌++◌, drop}
use Rattle.view_accounts.specs.ClosedSessions.{ended_from}
use Rattle.view_accounts.proofs.session_needs.ended_of.Given as goal

abbrev pub invariant-loop-selector : goal.invariant-loop-selector
invariant-loop-selector l = l.ended.items ++ ended_from l.selector (drop l.selector l.fn.sessions.items) ≡ ended_from 0 l.fn.sessions.items
