-- The peaks and needs of all accounts, and the closed sessions, as they are kept.
use Rattle.std.specs.Prelude.{ℕ, List}
use Rattle.own_model.specs.Amounts.{Amounts}
use Rattle.own_model.specs.Listed.{Listed}
use Rattle.own_model.specs.World.{World}
use Rattle.view_accounts.specs.KeptSessions.{SeesSessions}
use Rattle.view_accounts.specs.Kept.{SeesPeaks, peaked}
use Rattle.view_accounts.specs.Meters.{SeesNeeds, needs_of_sessions}
use Rattle.view_accounts.specs.declared.accounting.Accounting.{Accounting}
use Rattle.view_accounts.specs.declared.session_needs.ClosedSession.{ClosedSession}

-- the values of sessions: the need of each open one, and the closed ones
pub record OfSessions : Type 0 where
  pub needs : ℕ → ℕ → Amounts
  pub closed : List ClosedSession

pub record SeesAccounts (observer : Accounting) (listed : Listed) (start : World) (earlier : List (List ℕ)) : Type 0 where
  pub peaks :
      SeesPeaks (peaked observer.peaks.init) observer.peaks.components.items observer.peaks.sessions listed start earlier
  pub needs : SeesNeeds observer.needs.meters.items start earlier
  pub sessions : SeesSessions observer.needs.lines observer.needs.sessions listed start earlier

abbrev pub sessions_kept : Accounting → OfSessions
sessions_kept observer = record {
  needs = needs_of_sessions observer.needs.sessions.opened;
  closed = observer.needs.sessions.closed.items;
}
