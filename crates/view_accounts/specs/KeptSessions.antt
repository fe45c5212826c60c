-- What is kept of sessions, and what it says of those so far.
use Rattle.std.specs.Prelude.{◌≡◌, ℕ, ◌-◌, ◌^◌, List, [], length, min, Option, Some, None}
use Rattle.own_model.specs.Listed.{Listed}
use Rattle.own_model.specs.World.{World}
use Rattle.budget_meter.specs.Sessions.{HasReached}
use Rattle.view_accounts.specs.ClosedByLines.{AreClosed, opening_line}
use Rattle.view_accounts.specs.ClosedSessions.{closed_of}
use Rattle.view_accounts.specs.SessionHistories.{SessionHistory, history_of, opening_donation}
use Rattle.view_accounts.specs.SessionNeeds.{IsMeasured}
use Rattle.view_accounts.specs.SessionTable.{value_at}
use Rattle.view_accounts.specs.declared.session_needs.MeteredSession.{MeteredSession}
use Rattle.view_accounts.specs.declared.session_needs.SessionNeeds.{SessionNeeds}

-- what is kept of a session that the line of a number opened: its meter has observed its history
pub record IsKeptOf (line : ℕ) (history : SessionHistory) (kept : MeteredSession) : Type 0 where
  pub measured : IsMeasured kept
  pub reached : HasReached history.all (opening_donation history) history.first kept.meter
  pub opened : kept.earlier ≡ line

-- nothing is kept if no session is open
abbrev pub KeepsSession : ℕ → Option SessionHistory → Option MeteredSession → Type 0
KeepsSession line None kept = kept ≡ None
KeepsSession line (Some history) None = ⊥
KeepsSession line (Some history) (Some kept) = IsKeptOf line history kept

-- so many lines were answered, and what is kept is that of all sessions so far
pub record SeesSessions (lines : ℕ) (sessions : SessionNeeds) (listed : Listed) (start : World) (earlier : List (List ℕ)) : Type 0 where
  pub counted : lines ≡ min (length earlier) (2 ^ 64 - 1)
  pub each : (component selector : ℕ) →
      KeepsSession (opening_line start earlier component selector) (history_of start earlier component selector)
      (value_at sessions.opened component selector)
  pub closed : AreClosed listed start [] earlier (closed_of sessions.closed.items)
