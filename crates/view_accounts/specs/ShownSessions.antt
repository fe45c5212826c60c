-- The values of sessions that are printed after a run are those of its calls.
use Rattle.std.specs.Prelude.{◌≡◌, ℕ, List, [], Option, None, IfNone, IfSome}
use Rattle.std.specs.Option.{option_map}
use Rattle.own_model.specs.Listed.{Listed}
use Rattle.own_model.specs.Text.{lines_of}
use Rattle.own_model.specs.World.{World, world_running}
use Rattle.run_lines.specs.declared.line_run_fault.LineRunFault.{LineRunFault}
use Rattle.run_scenario.specs.LineSteps.{LineStep}
use Rattle.run_scenario.specs.RunCalls.{calls_answered}
use Rattle.view_accounts.specs.Accounting.{OfSessions}
use Rattle.view_accounts.specs.ClosedByLines.{AreClosed}
use Rattle.view_accounts.specs.ClosedSessions.{closed_of}
use Rattle.view_accounts.specs.Peaks.{session_at}
use Rattle.view_accounts.specs.SessionHistories.{history_of, need_by_history, session_after_all}

-- the values of sessions after calls: all that reached a session led to its state, its need follows from that, and the closed
-- sessions are those that the calls closed
pub record ShownAfter (values : OfSessions) (listed : Listed) (start : World) (calls : List (List ℕ)) : Type 0 where
  pub led : (component selector : ℕ) →
      option_map session_after_all (history_of start calls component selector) ≡ session_at component selector (world_running start calls)
  pub needs : (component selector : ℕ) → values.needs component selector ≡ need_by_history (history_of start calls component selector)
  pub closed : AreClosed listed start [] calls (closed_of values.closed)

-- if a run reached its end, they are those after all lines of its input, if that is known
abbrev pub ShowsSessions : OfSessions → Listed → World → (List (List ℕ) → List LineStep) → Option LineRunFault → Option (List ℕ) → Type 0
ShowsSessions values listed start steps fault input =
    IfNone fault (IfSome input (λ text. ShownAfter values listed start (calls_answered None (steps (lines_of text)))))
