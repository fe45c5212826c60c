-- Those so far are closed, those to come will be, and the sessions that are open stay.
use Rattle.std.proofs.Common.{◌≡◌, ◌++◌, drop}
use Rattle.view_accounts.specs.ClosedSessions.{closed_of, closings}
use Rattle.view_accounts.specs.Kept.{found}
use Rattle.view_accounts.proofs.session_needs.SessionNeeds.keep_each_closed.Given as goal

abbrev pub invariant-loop-session : goal.invariant-loop-session
invariant-loop-session l = record {
  same : l.self.opened ≡ l.initial.self.opened;
  closed : closed_of l.self.closed.items ++ closings (found l.peaks.sessions l.component) l.component (drop l.session-index l.ended)
      ≡ closed_of l.initial.self.closed.items ++ closings (found l.peaks.sessions l.component) l.component l.ended;
}
