-- What is kept of a session's need, and what a call changes of it.
use Rattle.std.specs.Prelude.{◌≡◌, ℕ, ◌==◌, ◌&&◌, Bool, true, false, List, [], ◌∷◌, ◌++◌, Option, Some, None}
use Rattle.own_model.specs.Account.{Account}
use Rattle.own_model.specs.Amounts.{Amounts}
use Rattle.own_model.specs.Call.{Call}
use Rattle.own_model.specs.Call.Call.{Open, Upgrade, CallSession, Close, Exit}
use Rattle.own_model.specs.OwnState.{NamedBuffer, bytes_of_buffer}
use Rattle.own_model.specs.Session.{Session, Wish, new_session, served, too_small, upgraded}
use Rattle.own_model.specs.World.{World}
use Rattle.core_calls.specs.declared.quotas.Quotas.{Quotas}
use Rattle.core_calls.specs.Quotas.{quotas_account}
use Rattle.budget_theorems.specs.Request.{donating}
use Rattle.budget_theorems.specs.RequestTheorems.{Reaches, session_run}
use Rattle.budget_theorems.specs.RequestTheorems.Reaches.{Asked, Raised}
use Rattle.budget_meter.specs.Sessions.{HasReached, IsServedBy}
use Rattle.view_accounts.specs.Peaks.{session_at}
use Rattle.view_accounts.specs.declared.session_needs.MeteredSession.{MeteredSession}
use Rattle.view_accounts.specs.declared.session_outcome.SessionOutcome.{SessionOutcome}

-- what is kept under a selector of a component before a call and after it
abbrev pub Change : Type 1
Change = Option MeteredSession → Option MeteredSession → Type 0

-- the need that is kept is the one that the meter measures
abbrev pub IsMeasured : MeteredSession → Type 0
IsMeasured kept = kept.need ≡ kept.meter.meter.least

-- a session is kept with this property
abbrev pub IsKept : (MeteredSession → Type 0) → Option MeteredSession → Type 0
IsKept P None = ⊥
IsKept P (Some kept) = IsMeasured kept × P kept

-- the meter is that of any session that was just opened, by the line of this number, and is this one: nothing has reached it yet
pub record IsNew (line : ℕ) (session : Session) (kept : MeteredSession) : Type 0 where
  pub opened : kept.earlier ≡ line
  pub reached : (wish : Wish) → new_session wish ≡ session → too_small wish.ram wish.caps ≡ None →
      HasReached [] (record { ram = wish.ram; caps = wish.caps }) (new_session wish) kept.meter

-- the meter has observed one request more, with this reply and this account after it
pub record HasAsked (request reply : List ℕ) (account : Account) (old kept : MeteredSession) : Type 0 where
  pub opened : kept.earlier ≡ old.earlier
  pub reached : (all : List Reaches) (donation : Amounts) (session : Session) (buffer : Option NamedBuffer) →
      HasReached all donation session old.meter →
      ((left : Quotas) → quotas_account left ≡ account →
      IsServedBy reply left buffer (served (bytes_of_buffer buffer) (session_run all (donating donation session)) request)) →
      HasReached (all ++ Asked (bytes_of_buffer buffer) request ∷ []) donation session kept.meter

-- the meter has observed one upgrade more, which was done or refused, with this account after it
pub record HasRaised (account : Account) (old kept : MeteredSession) : Type 0 where
  pub opened : kept.earlier ≡ old.earlier
  pub done : (all : List Reaches) (donation more : Amounts) (session : Session) → HasReached all donation session old.meter →
      account ≡ (upgraded (session_run all (donating donation session)) more.ram more.caps).account →
      HasReached (all ++ Raised more ∷ []) donation session kept.meter
  pub refused : (all : List Reaches) (donation : Amounts) (session : Session) → HasReached all donation session old.meter →
      account ≡ (session_run all (donating donation session)).account → HasReached all donation session kept.meter

-- ---- by the session that is open after the call

abbrev pub Begins : ℕ → Option Session → Change
Begins line None was is = is ≡ was
Begins line (Some session) was is = IsKept (IsNew line session) is

abbrev pub Asks : List ℕ → List ℕ → Option Session → Change
Asks request reply (Some session) (Some old) is = IsKept (HasAsked request reply session.account old) is
Asks request reply session was is = is ≡ was

abbrev pub Raises : Option Session → Change
Raises (Some session) (Some old) is = IsKept (HasRaised session.account old) is
Raises session was is = is ≡ was

abbrev pub Ends : Bool → Change
Ends true was is = is ≡ None
Ends false was is = is ≡ was

-- ---- by the call

-- the session under a selector of a component changes so, and no other
abbrev pub ChangesAt : ℕ → ℕ → Change → ℕ → ℕ → Change
ChangesAt component selector change c q was is =
    ((c == component && q == selector) ≡ true → change was is) × ((c == component && q == selector) ≡ false → is ≡ was)

-- the session that a component opened by a line, if it opened one
abbrev pub Opens : ℕ → World → ℕ → Option ℕ → ℕ → ℕ → Change
Opens line world component None c q was is = is ≡ was
Opens line world component (Some selector) c q was is =
    ChangesAt component selector (Begins line (session_at component selector world)) c q was is

-- all sessions of a component end
abbrev pub EndsAll : ℕ → Bool → ℕ → Change
EndsAll component done c was is = ((c == component) ≡ true → Ends done was is) × ((c == component) ≡ false → is ≡ was)

-- what is kept under a selector changes so by a line with a call of a component, with its outcome, its reply and the world after it
abbrev pub HearsCall : ℕ → World → ℕ → Call → SessionOutcome → List ℕ → ℕ → ℕ → Change
HearsCall line world component (Open service text) outcome reply c q was is = Opens line world component outcome.opened c q was is
HearsCall line world component (Upgrade selector text) outcome reply c q was is =
    ChangesAt component selector (Raises (session_at component selector world)) c q was is
HearsCall line world component (CallSession selector request) outcome reply c q was is =
    ChangesAt component selector (Asks request reply (session_at component selector world)) c q was is
HearsCall line world component (Close selector) outcome reply c q was is = ChangesAt component selector (Ends outcome.is_done) c q was is
HearsCall line world component Exit outcome reply c q was is = EndsAll component outcome.is_done c was is
HearsCall line world component call outcome reply c q was is = is ≡ was
