-- What has reached an open session since its opening, and the need that follows.
use Rattle.std.specs.Prelude.{ℕ, ◌==◌, List, [], ◌∷◌, ◌++◌, if◌then◌else◌, Option, Some, None}
use Rattle.std.specs.FinMap.{get}
use Rattle.own_model.specs.Amounts.{Amounts, no_amounts}
use Rattle.own_model.specs.Call.{Call}
use Rattle.own_model.specs.Call.Call.{Upgrade, CallSession}
use Rattle.own_model.specs.OwnState.{OwnState, buffer_of, bytes_of_buffer, session_named}
use Rattle.own_model.specs.OwnStep.{own_step}
use Rattle.own_model.specs.Reply.{Reply}
use Rattle.own_model.specs.Reply.Reply.{Done}
use Rattle.own_model.specs.Session.{Session}
use Rattle.own_model.specs.SessionArgs.{Arguments, arguments_of}
use Rattle.own_model.specs.StartList.{Entry}
use Rattle.own_model.specs.Transcript.{entry_at, state_at}
use Rattle.own_model.specs.World.{World}
use Rattle.budget_theorems.specs.Need.{cell_by}
use Rattle.budget_theorems.specs.RequestTheorems.{Reaches, session_needs, session_run}
use Rattle.budget_theorems.specs.RequestTheorems.Reaches.{Asked, Raised}
use Rattle.budget_meter.specs.SessionRuns.{opening_need}
use Rattle.view_accounts.specs.Needs.{begins, limits, own_calls}

-- a session as it was opened, and all that has reached it since then, in this order
pub record SessionHistory : Type 0 where
  pub first : Session
  pub all : List Reaches

-- ---- one call

-- the amounts of an upgrade, if it was done
abbrev pub raised_by : Reply → Option Arguments → List Reaches
raised_by Done (Some more) = Raised (record { ram = more.ram; caps = more.caps }) ∷ []
raised_by reply arguments = []

-- what reaches the session under a selector by a call that its client makes in a state: a request, with the buffer that the
-- session has then, or the amounts of an upgrade
abbrev pub reaching : Entry → ℕ → OwnState → Call → List Reaches
reaching client selector s (CallSession of request) =
    if of == selector then Asked (bytes_of_buffer (buffer_of selector s.selectors)) request ∷ [] else []
reaching client selector s (Upgrade of text) =
    if of == selector then raised_by (own_step client (Upgrade of text) s).reply (arguments_of text) else []
reaching client selector s call = []

-- the history after a call, by the session that is open then, by what reached it, and by the history before the call. A session
-- without a history was just opened
abbrev pub history_with : Option Session → List Reaches → Option SessionHistory → Option SessionHistory
history_with None more earlier = None
history_with (Some session) more None = Some (record { first = session; all = [] })
history_with (Some session) more (Some history) = Some (record { first = history.first; all = history.all ++ more })

-- ---- the calls of a run

-- the history of the session under a selector after these calls of its client from a state, by the history in that state
abbrev pub history_along : Entry → ℕ → List Call → OwnState → Option SessionHistory → Option SessionHistory
history_along client selector [] s history = history
history_along client selector (call ∷ calls) s history =
    let next = (own_step client call s).next in
    history_along client selector calls next
    (history_with (session_named (get next.selectors selector)) (reaching client selector s call) history)

-- the history of the session that is open under a selector of a component, if one is, after calls of all components. No session
-- is open at the start
abbrev pub history_of : World → List (List ℕ) → ℕ → ℕ → Option SessionHistory
history_of start calls component selector =
    history_along (entry_at start.entries component) selector (own_calls start calls component) (state_at start.states component) None

-- ---- what follows from a history

-- the session after all that reached it
abbrev pub session_after_all : SessionHistory → Session
session_after_all history = session_run history.all history.first

-- the amounts with which the session was opened
abbrev pub opening_donation : SessionHistory → Amounts
opening_donation history = limits history.first.account

-- the minimum opening donation with which the tests that passed still pass: that of the opening, and those of all that reached
-- the session
abbrev pub need_by : SessionHistory → Amounts
need_by history =
    let donation = opening_donation history in
    begins (cell_by donation (opening_need donation ∷ session_needs donation history.all history.first))

-- or nothing, if no session is open
abbrev pub need_by_history : Option SessionHistory → Amounts
need_by_history None = no_amounts
need_by_history (Some history) = need_by history
