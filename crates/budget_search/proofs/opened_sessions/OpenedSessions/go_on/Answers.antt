-- What came of the call is the selector in its reply, and whether it is done.
use Rattle.std.proofs.lemmas.Result.{on_ok_weaker}
use Rattle.budget_search.specs.ReachedSessions.{came_with}
use Rattle.budget_search.proofs.opened_sessions.OpenedSessions.go_on.Goals as goal

pub returns-clause-sessions : goal.returns-clause-sessions
returns-clause-sessions g c =
    on_ok_weaker c.record.result
    (λ is. (
      c.in_ok-make.ensures,
      (
        came_with c.selector-selector.result c.is_done-is_done.result,
        (
          record { selected = c.selector-selector.ensures.some; unselected = c.selector-selector.ensures.none; done = c.is_done-is_done.ensures },
          is,
        ),
      ),
    )) c.record.ensures.sessions
