-- What is left of the lines takes the sessions from here to the end.
use Rattle.std.proofs.Common.{drop}
use Rattle.budget_search.specs.ReachedSessions.{followed, sessions_of, Reach, Sessions}
use Rattle.budget_search.proofs.opened_sessions.OpenedSessions.follow.Given as goal

abbrev pub invariant-loop-place : goal.invariant-loop-place
invariant-loop-place g l = record {
  left : (end : Sessions) → Reach (drop l.place l.steps) l.place (followed l.client (sessions_of l.self)) end →
      Reach l.steps 0 (followed l.initial.client (sessions_of l.initial.self)) end;
}
