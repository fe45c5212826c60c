-- Theorems on sessions, as statements.
use Rattle.std.specs.Prelude.{◌≡◌, ℕ, ◌==◌, Bool, true, false, List, Option, Some, None}
use Rattle.std.specs.Option.{option_map, option_or}
use Rattle.std.specs.FinMap.{get}
use Rattle.own_model.specs.Call.{Call}
use Rattle.own_model.specs.Call.Call.{Open, Upgrade, CallSession, Close, Exit}
use Rattle.own_model.specs.Donated.{donated}
use Rattle.own_model.specs.Donation.{raised}
use Rattle.own_model.specs.OwnState.{OwnState, EachSession, server_named}
use Rattle.own_model.specs.OwnState.Object.{OpenSession}
use Rattle.own_model.specs.OwnStep.{own_step, own_run}
use Rattle.own_model.specs.Reply.Reply.{Done}
use Rattle.own_model.specs.Session.{Session, IsKept, given}
use Rattle.own_model.specs.Routes.{provider}
use Rattle.own_model.specs.StartList.{Entry, StartEntry, start_state}
use Rattle.own_model.specs.Sound.{AreLent}
use Rattle.own_model.specs.Use.{UseTheirCharges}

-- no component starts with a session
abbrev pub StartsWithoutSessions : Type 0
StartsWithoutSessions = (start : StartEntry) → EachSession (λ session. ⊥) (start_state start)

-- calls leave each session's account using what the session is charged for, its buffer among it, and no more
abbrev pub RunKeepsCharges : Type 0
RunKeepsCharges =
    (entry : Entry) (calls : List Call) (s : OwnState) → AreLent s.selectors → UseTheirCharges s → UseTheirCharges (own_run entry calls s)

-- and what each server keeps for its sessions as it should be
abbrev pub RunKeepsKept : Type 0
RunKeepsKept =
    (entry : Entry) (calls : List Call) (s : OwnState) → EachSession (λ session. IsKept session.state) s →
    EachSession (λ session. IsKept session.state) (own_run entry calls s)

-- a call is of the session under this selector: an exit is of each
abbrev pub is_of : ℕ → Call → Bool
is_of selector (Upgrade of text) = of == selector
is_of selector (CallSession of request) = of == selector
is_of selector (Close of) = of == selector
is_of selector Exit = true
is_of selector call = false

-- a session stays as it is except for the calls of this session
abbrev pub SessionsAreIndependent : Type 0
SessionsAreIndependent =
    (entry : Entry) (call : Call) (s : OwnState) (selector : ℕ) (session : Session) →
    get s.selectors selector ≡ Some (OpenSession session) → is_of selector call ≡ false →
    get (own_step entry call s).next.selectors selector ≡ Some (OpenSession session)

-- the place of the server to which a call's session request is routed, if it has one and is routed
abbrev pub server_asked : Entry → Call → Option ℕ
server_asked entry (Open service text) = option_map (λ server. server.place) (provider entry.routes service (given text).label)
server_asked entry call = None

-- a session that is there after a call is of the server of which it was before, and where it wasn't there of the one that its
-- client's routes lead to
abbrev pub SessionsHaveTheirServers : Type 0
SessionsHaveTheirServers =
    (entry : Entry) (call : Call) (s : OwnState) (selector : ℕ) (session : Session) →
    get (own_step entry call s).next.selectors selector ≡ Some (OpenSession session) →
    Some session.server ≡ option_or (server_named (get s.selectors selector)) (server_asked entry call)

-- after any calls of a client that began without sessions, the limits of a session's account are what the client donated for it
abbrev pub LimitsAreDonations : Type 0
LimitsAreDonations =
    (entry : Entry) (calls : List Call) (s : OwnState) (selector : ℕ) (session : Session) → EachSession (λ session. ⊥) s →
    get (own_run entry calls s).selectors selector ≡ Some (OpenSession session) →
    (session.account.ram_limit ≡ (donated entry selector calls s).ram) × (session.account.caps_limit ≡ (donated entry selector calls s).caps)

-- so a close that is done raises the client's limits by exactly that, and leaves its use
abbrev pub ClosesReturnDonations : Type 0
ClosesReturnDonations =
    (entry : Entry) (calls : List Call) (s : OwnState) (selector : ℕ) → EachSession (λ session. ⊥) s →
    (own_step entry (Close selector) (own_run entry calls s)).reply ≡ Done →
    (own_step entry (Close selector) (own_run entry calls s)).next.account
    ≡ raised (own_run entry calls s).account (donated entry selector calls s).ram (donated entry selector calls s).caps
