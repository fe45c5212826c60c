-- What a script's lines send to one of its sessions, and the state of the client that makes them for it alone.
use Rattle.std.specs.Prelude.{◌≡◌, ◌≤◌, ◌<◌, ◌^◌, ◌||◌, ℕ, Bool, false, List, [], ◌∷◌, length, not, slice_get, if◌then◌else◌, Option, Some, None, Result, Ok, Err}
use Rattle.std.specs.FinMap as map
use Rattle.std.specs.FinMap.{insert}
use Rattle.std.specs.Str.{bytes_eq}
use Rattle.trade_base.specs.Refusal.{refusal_name}
use Rattle.trade_base.specs.declared.refusal.Refusal.{Refusal}
use Rattle.trade_base.specs.declared.refusal.Refusal.TheVariants.{InsufficientRamQuota, InsufficientCapQuota}
use Rattle.list_parser.specs.declared.fault.BootFault.{BootFault}
use Rattle.list_parser.specs.declared.fault.BootFault.TheVariants.{BadConfig}
use Rattle.list_parser.specs.declared.fault.ConfigField.TheVariants.{Start}
use Rattle.own_model.specs.Account.{Account, Fits, opened}
use Rattle.own_model.specs.Amounts.{Amounts, more_of, no_amounts}
use Rattle.own_model.specs.Call.{Call}
use Rattle.own_model.specs.Call.Call.{Open, CallSession, Upgrade}
use Rattle.own_model.specs.Donation.{raised}
use Rattle.own_model.specs.Limits.{ram_with, caps_with}
use Rattle.own_model.specs.NatMap.{NatMap, total}
use Rattle.own_model.specs.OwnState.{Object, OwnState}
use Rattle.own_model.specs.OwnState.Object.{OpenSession, Buffer}
use Rattle.own_model.specs.Session.{Session, Wish, wish, new_session}
use Rattle.own_model.specs.SessionArgs.{Arguments, arguments_of}
use Rattle.own_model.specs.StartList.{Entry}
use Rattle.own_model.specs.StartList.Kind.{Script}
use Rattle.own_model.specs.Transcript.{entry_at, state_at}
use Rattle.own_model.specs.World.{World}
use Rattle.budget_theorems.specs.Need.{Need}
use Rattle.budget_meter.specs.SessionRuns.{Sent, opened_needs, opened_in_want}
use Rattle.budget_meter.specs.SessionRuns.Sent.{Asks, Raises}
use Rattle.budget_meter.specs.Sessions.{IsLeft, Shows}
use Rattle.budget_meter.specs.declared.meter.Meter.{Meter}
use Rattle.budget_meter.specs.declared.session.SessionMeter.{SessionMeter}
use Rattle.budget_search.specs.BudgetIntervals.{serves}
use Rattle.budget_search.specs.Steps.{call_said}
use Rattle.budget_search.specs.declared.budget_intervals.BudgetInterval.{BudgetInterval}
use Rattle.budget_search.specs.declared.component_line.ComponentLine.{ComponentLine}

-- ---- what lines send

-- arguments raise a donation, if they are in the grammar
abbrev pub raises : Option Arguments → List Sent → List Sent
raises None rest = rest
raises (Some more) rest = Raises (record { ram = more.ram; caps = more.caps }) ∷ rest

-- the call of a line that reaches the session, for any selector in it, and what the lines after it send: a line that is left out
-- sends nothing
abbrev pub sends : Bool → Option Call → List Sent → List Sent
sends left_out None rest = rest
sends left_out (Some (CallSession selector request)) rest = if left_out then rest else Asks request ∷ rest
sends left_out (Some (Upgrade selector text)) rest = if left_out then rest else raises (arguments_of text) rest
sends left_out (Some call) rest = rest

abbrev pub sent_by : Option ComponentLine → List Sent → List Sent
sent_by None rest = rest
sent_by (Some step) rest = sends step.is_left_out (call_said step.line.items) rest

-- what the lines at these places send
abbrev pub sent_at : List ComponentLine → List ℕ → List Sent
sent_at steps [] = []
sent_at steps (place ∷ places) = sent_by (slice_get steps place) (sent_at steps places)

-- what is sent donates in all
abbrev pub raised_in : List Sent → Amounts
raised_in [] = no_amounts
raised_in (Asks request ∷ rest) = raised_in rest
raised_in (Raises more ∷ rest) = more_of more (raised_in rest)

-- the session that is made if a request is routed to a server
abbrev pub made_by : Result Wish Refusal → Option Session
made_by (Ok wish) = Some (new_session wish)
made_by (Err refusal) = None

-- the session that a line opens for a client, without its limits
abbrev pub opened_by : Entry → Option Call → Option Session
opened_by entry (Some (Open service text)) = made_by (wish entry.label entry.routes service text)
opened_by entry call = None

abbrev pub opened_with : Entry → Option ComponentLine → Option Session
opened_with entry None = None
opened_with entry (Some step) = opened_by entry (call_said step.line.items)

-- an opening is refused since its donation is too small
abbrev pub is_too_small : List ℕ → Bool
is_too_small text = bytes_eq text (refusal_name InsufficientRamQuota) || bytes_eq text (refusal_name InsufficientCapQuota)

-- ---- the state of the client

-- its selectors, if it has this session, with a buffer of these bytes or none, and nothing else
abbrev pub held : Session → Option (List ℕ) → NatMap Object
held session None = insert map.empty 1 (OpenSession session)
held session (Some bytes) = insert (insert map.empty 1 (OpenSession session)) 2 (Buffer 1 bytes)

-- a component's account, whose limits include those of its sessions' accounts
unfoldable pub whole_of : OwnState → Account
whole_of s = raised s.account (total ram_with s.selectors) (total caps_with s.selectors)

-- that of a client of a world
abbrev pub whole_at : World → ℕ → Account
whole_at world client = whole_of (state_at world.states client)

-- a client covers donations of so much in all
abbrev pub CanDonate : World → ℕ → Amounts → Type 0
CanDonate world client due = Fits (whole_at world client) due.ram due.caps

-- a script that is there, and whose selectors name just these
pub record HasSelectors (world : World) (client : ℕ) (which : NatMap Object) : Type 0 where
  pub script : (entry_at world.entries client).kind ≡ Script
  pub entry : client < length world.entries
  pub there : client < length world.states
  pub here : (state_at world.states client).gone ≡ false
  pub selectors : (state_at world.states client).selectors ≡ which

-- it has no session yet, or none any more
abbrev pub IsReady : World → ℕ → Type 0
IsReady world client = HasSelectors world client map.empty

-- and its list has this entry for it, and it has so much, of which nothing is used
pub record IsReadyFor (entry : Entry) (whole : Amounts) (world : World) (client : ℕ) : Type 0 where
  pub ready : IsReady world client
  pub same : entry_at world.entries client ≡ entry
  pub whole_is : whole_at world client ≡ opened whole.ram whole.caps

-- it has one session. The limits of that session's account, and what is still to be sent to the session, make so much in all
pub record HasDue (world : World) (client : ℕ) (due : Amounts) (rest : List Sent) : Type 0 where
  pub now : Session
  pub buffer : Option (List ℕ)
  pub has : HasSelectors world client (held now buffer)
  pub due_is : due ≡ more_of (record { ram = now.account.ram_limit; caps = now.account.caps_limit }) (raised_in rest)

-- of what it sends to its session in a run from a donation this is left, and nothing that its meter observed was short of quota
pub record HasLeft (world : World) (client : ℕ) (heard : SessionMeter) (sent rest : List Sent) (session : Session) (donation : Amounts) : Type 0 where
  pub now : Session
  pub buffer : Option (List ℕ)
  pub has : HasSelectors world client (held now buffer)
  pub left : IsLeft sent rest donation session buffer now heard

-- its run is at an end, with what it showed, and the session is still open
pub record HasEnded (world : World) (client : ℕ) (sent : List Sent) (session : Session) (donation : Amounts) (wanting : Bool) (meter : Meter) : Type 0 where
  pub now : Session
  pub buffer : Option (List ℕ)
  pub has : HasSelectors world client (held now buffer)
  pub shows : Shows sent session donation wanting meter

-- ---- intervals

-- for the session that lines open and reach these are the needs of its runs, and whether they are short of quota
pub record AreSessionRuns (world : World) (client : ℕ) (opening : Option ComponentLine) (sent : List Sent) (each : Amounts → List Need) (wanting : Amounts → Bool) : Type 0 where
  pub ready : IsReady world client
  pub session : Session
  pub opens : opened_with (entry_at world.entries client) opening ≡ Some session
  pub needs : each ≡ opened_needs sent session
  pub want : wanting ≡ opened_in_want sent session

-- a run from a donation has this error, and the client doesn't cover the donation in addition to what is sent. That is so for
-- capabilities within the bounds of the grammar
pub record FailsToDonate (world : World) (client : ℕ) (sent : List Sent) (donation : Amounts) (fault : BootFault) : Type 0 where
  pub fault_is : fault ≡ BadConfig Start
  pub lacks : donation.caps < 2 ^ 32 → CanDonate world client (more_of donation (raised_in sent)) → ⊥

-- a donation suffices: the session opens with it, and its own run isn't short of quota
abbrev pub suffices_of : List Sent → Session → Amounts → Bool
suffices_of sent session donation = not (opened_in_want sent session donation)

-- intervals are exactly the donations, of at most these bytes and capabilities, with which a session opens and its own run isn't
-- short of quota
abbrev pub AreExactOf : List Sent → Session → ℕ → ℕ → List BudgetInterval → Type 0
AreExactOf sent session caps top rows =
    (donation : Amounts) → donation.caps ≤ caps → donation.ram ≤ top → serves rows donation ≡ suffices_of sent session donation
