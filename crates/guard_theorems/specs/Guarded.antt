-- Servers that pay for their sessions from accounts of their own, and hold each session to its donation by a guard.
use Rattle.std.specs.Prelude.{ℕ, ◌+◌, ◌-◌, ◌==◌, ◌++◌, Bool, true, false, List, [], ◌∷◌, min, slice_set, if◌then◌else◌, Option, Some, None, is_none, Result, Ok, Err}
use Rattle.std.specs.FinMap.{get, values}
use Rattle.std.specs.Option.{option_or}
use Rattle.trade_base.specs.declared.refusal.Refusal.{Refusal}
use Rattle.own_model.specs.Account.{Account, shortage, charged, credited, opened, parted_with}
use Rattle.own_model.specs.Amounts.{Amounts, no_amounts, more_of}
use Rattle.own_model.specs.Call.{Call}
use Rattle.own_model.specs.Call.Call.{Open, Upgrade, CallSession, Close, Exit}
use Rattle.own_model.specs.Donation.{raised}
use Rattle.own_model.specs.OwnState.{OwnState, Object, NamedBuffer, session_named, buffer_of, bytes_of_buffer}
use Rattle.own_model.specs.OwnState.Object.{OpenSession}
use Rattle.own_model.specs.OwnStep.{Outcome, refused, turned_away, entry_step, upgraded_by, session_opened, session_upgraded, session_called, session_served, session_closed, exited}
use Rattle.own_model.specs.Running.{told_now}
use Rattle.own_model.specs.Session.{Session, Wish, donation_refusal, Served, session_ram, session_caps, served, wish}
use Rattle.own_model.specs.SessionArgs.{Arguments, arguments_of}
use Rattle.own_model.specs.StartList.{Entry, init_at}
use Rattle.own_model.specs.Transcript.{Made, Heard, heard, entry_at, state_at, outcome_text}
use Rattle.own_model.specs.Transcript.Heard.{Caller}
use Rattle.own_model.specs.World.{World}

-- the machine, and an account for each server, by the server's place. The account that a session has in its client's own state
-- is the session's guard
pub record GuardedWorld : Type 0 where
  pub world : World
  pub accounts : ℕ → Account

-- the accounts with another one for the server at a place
abbrev pub with_account : ℕ → Account → (ℕ → Account) → ℕ → Account
with_account server account accounts place = if server == place then account else accounts place

-- ---- what a session may use

-- of what a guard leaves and what an account leaves, what counts: the lesser, or without guards the account's
abbrev pub rest_by : Bool → ℕ → ℕ → ℕ
rest_by true guard account = min guard account
rest_by false guard account = account

-- the account against which a session's charges are tested: the session's use, and as limit that use and what both leave
abbrev pub cover : Bool → Account → Account → Account
cover guards guard account = record guard {
  ram_limit = guard.ram_used + rest_by guards (guard.ram_limit - guard.ram_used) (account.ram_limit - account.ram_used);
  caps_limit = guard.caps_used + rest_by guards (guard.caps_limit - guard.caps_used) (account.caps_limit - account.caps_used);
}

-- the account after the use of one of its sessions has changed
abbrev pub with_use : Account → Account → Account → Account
with_use account before after = credited (charged account after.ram_used after.caps_used) before.ram_used before.caps_used

-- ---- calls

-- what a call gives: the outcome for its caller, the servers' accounts after it, and what the caller's init gets
pub record GuardedOutcome : Type 0 where
  pub outcome : Outcome
  pub accounts : ℕ → Account
  pub returned : Amounts

-- an outcome with these accounts, of which init gets nothing
abbrev pub paid_by : (ℕ → Account) → Outcome → GuardedOutcome
paid_by accounts outcome = record { outcome = outcome; accounts = accounts; returned = no_amounts }

abbrev pub unless_refused : Option Refusal → OwnState → (ℕ → Account) → GuardedOutcome → GuardedOutcome
unless_refused (Some refusal) s accounts accepted = paid_by accounts (refused s refusal)
unless_refused None s accounts accepted = accepted

-- an open raises its server's account by the donation, and charges the session to it, where guard and account cover that
abbrev pub guarded_open : Bool → Result Wish Refusal → OwnState → (ℕ → Account) → GuardedOutcome
guarded_open guards (Err refusal) s accounts = paid_by accounts (refused s refusal)
guarded_open guards (Ok wish) s accounts =
    let account = raised (accounts wish.server.place) wish.ram wish.caps in
    let costs = shortage (cover guards (opened wish.ram wish.caps) account) session_ram session_caps in
    unless_refused (option_or (donation_refusal s.account wish.ram wish.caps) costs) s accounts
    (paid_by (with_account wish.server.place (charged account session_ram session_caps) accounts) (session_opened wish s))

-- an upgrade raises it
abbrev pub guarded_upgrade : ℕ → Option Session → Option Arguments → OwnState → (ℕ → Account) → GuardedOutcome
guarded_upgrade selector (Some session) (Some more) s accounts =
    unless_refused (shortage s.account more.ram more.caps) s accounts
    (paid_by (with_account session.server (raised (accounts session.server) more.ram more.caps) accounts)
    (session_upgraded selector session more s))
guarded_upgrade selector session arguments s accounts = paid_by accounts (upgraded_by selector session arguments s)

-- a request was served so: its guard and its server's account both have the new use
abbrev pub request_paid : ℕ → Option NamedBuffer → Session → Served → OwnState → (ℕ → Account) → GuardedOutcome
request_paid selector buffer session o s accounts =
    let guard = record session.account { ram_used = o.session.account.ram_used; caps_used = o.session.account.caps_used } in
    paid_by (with_account session.server (with_use (accounts session.server) session.account o.session.account) accounts)
    (session_served selector buffer (record o { session = record o.session { account = guard } }) s)

-- it is served with what guard and account both cover
abbrev pub guarded_request : Bool → ℕ → Option Session → List ℕ → OwnState → (ℕ → Account) → GuardedOutcome
guarded_request guards selector None request s accounts = paid_by accounts (session_called selector None request s)
guarded_request guards selector (Some session) request s accounts =
    let buffer = buffer_of selector s.selectors in
    let account = cover guards session.account (accounts session.server) in
    request_paid selector buffer session (served (bytes_of_buffer buffer) (record session { account = account }) request) s accounts

-- sessions that are closed: the servers' accounts after it, and what comes back
pub record Closed : Type 0 where
  pub accounts : ℕ → Account
  pub returned : Amounts

-- what was donated for a session in all: the limits of its guard
abbrev pub limits_of : Account → Amounts
limits_of guard = record { ram = guard.ram_limit; caps = guard.caps_limit }

-- it comes back whole where the account covers it, and else not at all
abbrev pub donation_back : Account → Account → Amounts
donation_back guard account = if is_none (shortage account guard.ram_limit guard.caps_limit) then limits_of guard else no_amounts

-- a close credits what the session used, and takes from the account what comes back
abbrev pub session_ended : Session → (ℕ → Account) → Closed
session_ended session accounts =
    let account = credited (accounts session.server) session.account.ram_used session.account.caps_used in
    let back = donation_back session.account account in
    record { accounts = with_account session.server (parted_with account back.ram back.caps) accounts; returned = back }

abbrev pub guarded_close : ℕ → Option Session → OwnState → (ℕ → Account) → GuardedOutcome
guarded_close selector None s accounts = paid_by accounts (session_closed selector None s)
guarded_close selector (Some session) s accounts =
    let closed = session_ended session accounts in
    paid_by closed.accounts
    (session_closed selector (Some (record session { account = opened closed.returned.ram closed.returned.caps })) s)

-- the sessions among these objects are closed, one after another
abbrev pub sessions_ended : List Object → (ℕ → Account) → Closed
sessions_ended [] accounts = record { accounts = accounts; returned = no_amounts }
sessions_ended (OpenSession session ∷ objects) accounts =
    let first = session_ended session accounts in
    let rest = sessions_ended objects first.accounts in
    record { accounts = rest.accounts; returned = more_of first.returned rest.returned }
sessions_ended (object ∷ objects) accounts = sessions_ended objects accounts

-- an exit closes all sessions, and init gets what came back with the limits of account and reserve
abbrev pub guarded_exit : OwnState → (ℕ → Account) → GuardedOutcome
guarded_exit s accounts =
    let closed = sessions_ended (values s.selectors) accounts in
    record {
      outcome = exited;
      accounts = closed.accounts;
      returned = more_of (record { ram = s.account.ram_limit + s.reserve.ram; caps = s.account.caps_limit + s.reserve.caps }) closed.returned;
    }

-- any other call is no server's
abbrev pub guarded_call : Bool → Entry → Call → OwnState → (ℕ → Account) → GuardedOutcome
guarded_call guards entry (Open service text) s accounts = guarded_open guards (wish entry.label entry.routes service text) s accounts
guarded_call guards entry (Upgrade selector text) s accounts =
    guarded_upgrade selector (session_named (get s.selectors selector)) (arguments_of text) s accounts
guarded_call guards entry (CallSession selector request) s accounts =
    guarded_request guards selector (session_named (get s.selectors selector)) request s accounts
guarded_call guards entry (Close selector) s accounts = guarded_close selector (session_named (get s.selectors selector)) s accounts
guarded_call guards entry Exit s accounts = guarded_exit s accounts
guarded_call guards entry call s accounts = paid_by accounts (entry_step entry call s)

abbrev pub guarded_step : Bool → Entry → Call → OwnState → (ℕ → Account) → GuardedOutcome
guarded_step guards entry call s accounts =
    unless_refused (turned_away entry.kind s) s accounts (guarded_call guards entry call s accounts)

-- ---- lines

-- what a component's call gives
abbrev pub guarded_outcome : Bool → GuardedWorld → Made → GuardedOutcome
guarded_outcome guards g made =
    guarded_step guards (entry_at g.world.entries made.component) made.call (state_at g.world.states made.component) g.accounts

-- the machine after a component's call gave this
abbrev pub with_outcome : GuardedWorld → ℕ → GuardedOutcome → GuardedWorld
with_outcome g component o =
    let home = (entry_at g.world.entries component).home in
    let inits = slice_set g.world.inits home (raised (init_at g.world.inits home) o.returned.ram o.returned.caps) in
    let states = slice_set g.world.states component o.outcome.next in
    record { world = record g.world { inits = inits; states = states }; accounts = o.accounts }

-- and after a classified line
abbrev pub guarded_after_line : Bool → GuardedWorld → Heard → GuardedWorld
guarded_after_line guards g (Caller made) = with_outcome g made.component (guarded_outcome guards g made)
guarded_after_line guards g what = g

-- the output for a classified line
abbrev pub guarded_told : Bool → GuardedWorld → Heard → List ℕ
guarded_told guards g (Caller made) =
    outcome_text (entry_at g.world.entries made.component).name (guarded_outcome guards g made).outcome
guarded_told guards g what = told_now g.world.entries g.world.states what

-- the machine after these lines
abbrev pub guarded_running : Bool → GuardedWorld → List (List ℕ) → GuardedWorld
guarded_running guards g [] = g
guarded_running guards g (line ∷ lines) = guarded_running guards (guarded_after_line guards g (heard g.world.entries line)) lines

-- the output for these lines
abbrev pub guarded_transcript : Bool → GuardedWorld → List (List ℕ) → List ℕ
guarded_transcript guards g [] = []
guarded_transcript guards g (line ∷ lines) =
    let what = heard g.world.entries line in
    guarded_told guards g what ++ guarded_transcript guards (guarded_after_line guards g what) lines
