-- The peaks of accounts: the largest use after any line so far.
use Rattle.std.specs.Prelude.{ℕ, ◌-◌, Bool, false, true, List, [], ◌∷◌, length, max, is_some, slice_index_or, if◌then◌else◌, Option, Some, None}
use Rattle.std.specs.FinMap.{get}
use Rattle.std.specs.List.{list_all}
use Rattle.std.specs.Option.{option_map_or}
use Rattle.own_model.specs.Account.{Account}
use Rattle.own_model.specs.Amounts.{Amounts}
use Rattle.own_model.specs.Call.{Call, Spoken}
use Rattle.own_model.specs.Call.Call.{Open}
use Rattle.own_model.specs.Listed.{Listed, route_of}
use Rattle.own_model.specs.OwnState.{session_named}
use Rattle.own_model.specs.Routes.{label_with}
use Rattle.own_model.specs.Session.{Session, given}
use Rattle.own_model.specs.StartList.{no_account}
use Rattle.own_model.specs.Transcript.{entry_at, state_at}
use Rattle.own_model.specs.World.{World, world_running}
use Rattle.run_scenario.specs.Said.{said_in}

-- the worlds at a start and after each of these calls
abbrev pub worlds : World → List (List ℕ) → List World
worlds start [] = start ∷ []
worlds start (call ∷ calls) = start ∷ worlds (world_running start (call ∷ [])) calls

-- the most that is used in any of these
abbrev pub most : (World → ℕ) → List World → ℕ
most use_in [] = 0
most use_in (world ∷ rest) = max (use_in world) (most use_in rest)

-- the most of an account's RAM and of its capabilities, by what it is in each world
abbrev pub peak_of : (World → Account) → List World → Amounts
peak_of account_in ws = record {
  ram = most (λ w. (account_in w).ram_used) ws;
  caps = most (λ w. (account_in w).caps_used) ws;
}

-- ---- sessions

-- the session that a selector of a component names, if it names one
abbrev pub session_at : ℕ → ℕ → World → Option Session
session_at component selector world = session_named (get (state_at world.states component).selectors selector)

-- whether it names one
abbrev pub is_open : ℕ → ℕ → World → Bool
is_open component selector world = is_some (session_at component selector world)

-- the session's account, or an empty one if the selector names none
abbrev pub session_account_at : ℕ → ℕ → World → Account
session_account_at component selector world = option_map_or (λ s. s.account) (session_at component selector world) no_account

-- the longest end of these in which it holds of all
abbrev pub lasting : (World → Bool) → List World → List World
lasting holds [] = []
lasting holds (world ∷ rest) = if list_all holds (world ∷ rest) then world ∷ rest else lasting holds rest

-- the worlds since a session that is open now was opened
abbrev pub since_open : ℕ → ℕ → World → List (List ℕ) → List World
since_open component selector start calls = lasting (is_open component selector) (worlds start calls)

-- the call that opened it: after this call the session was there in all worlds
abbrev pub opener : ℕ → ℕ → World → List (List ℕ) → List ℕ
opener component selector start calls =
    slice_index_or calls (length calls - length (since_open component selector start calls)) []

-- a call asks for a session
abbrev pub opens : Call → Bool
opens (Open service text) = true
opens call = false

-- the label of the session that a call opens: the client's, and the one in the arguments
abbrev pub label_by_call : List ℕ → Call → List ℕ
label_by_call client (Open service text) = label_with client (given text).label
label_by_call client call = client

abbrev pub label_by : List ℕ → Option Spoken → List ℕ
label_by client None = client
label_by client (Some says) = label_by_call client says.call

-- the server to which the session request of a call is routed
abbrev pub server_by_call : Listed → ℕ → Call → Option ℕ
server_by_call listed client (Open service text) = route_of listed client service (given text).label
server_by_call listed client call = None

abbrev pub server_by : Listed → ℕ → Option Spoken → Option ℕ
server_by listed client None = None
server_by listed client (Some says) = server_by_call listed client says.call

-- the values of a session next to its account: the peak, the place of its server, and the label
pub record Noted : Type 0 where
  pub peak : Amounts
  pub server : Option ℕ
  pub label : List ℕ

-- of a session that is open now, by the calls so far
abbrev pub noted_of : Listed → World → List (List ℕ) → ℕ → ℕ → Noted
noted_of listed start calls component selector = record {
  peak = peak_of (session_account_at component selector) (since_open component selector start calls);
  server = server_by listed component (said_in (opener component selector start calls));
  label = label_by (entry_at start.entries component).label (said_in (opener component selector start calls));
}
