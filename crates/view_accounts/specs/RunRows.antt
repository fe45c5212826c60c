-- The rows of an account list after calls.
use Rattle.std.specs.Prelude.{◌≡◌, ℕ, zero, suc, false, ◌++◌, List, [], ◌∷◌, length, nat_lt, codes, map, if◌then◌else◌, Option, Some, None, IfNone, IfOk, IfSome, Result}
use Rattle.std.specs.declared.alloc.AllocError.{AllocError}
use Rattle.std.specs.Option.{option_map}
use Rattle.own_model.specs.Account.{Account}
use Rattle.own_model.specs.AccountList.{is_told}
use Rattle.own_model.specs.Amounts.{Amounts}
use Rattle.own_model.specs.Listed.{Listed, start_list_of}
use Rattle.own_model.specs.Session.{Session}
use Rattle.own_model.specs.StartList.{Entry, entries_of}
use Rattle.own_model.specs.Text.{lines_of}
use Rattle.own_model.specs.Transcript.{entry_at, state_at}
use Rattle.own_model.specs.World.{World, account_at, all_caps, all_ram, machine_init, world_running}
use Rattle.budget_meter.specs.Needs.{amounts_of}
use Rattle.run_lines.specs.Accounts.{listed_at}
use Rattle.run_lines.specs.declared.line_run_fault.LineRunFault.{LineRunFault}
use Rattle.run_scenario.specs.LineSteps.{LineStep}
use Rattle.run_scenario.specs.RunCalls.{calls_answered}
use Rattle.view_accounts.specs.Accounting.{OfSessions}
use Rattle.view_accounts.specs.Kept.{found, noted_in, peak_at, peaked}
use Rattle.view_accounts.specs.Meters.{needed_of, needs_of_sessions}
use Rattle.view_accounts.specs.Needs.{Needed, Needs, needs_after, needs_by}
use Rattle.view_accounts.specs.Peaks.{Noted, noted_of, peak_of, session_at, worlds}
use Rattle.view_accounts.specs.Rows.{AccountView, AccountsView, ComponentView, SessionView, accounts_view}
use Rattle.view_accounts.specs.declared.account_rows.AccountRows.{AccountRows}
use Rattle.view_accounts.specs.declared.accounting.Accounting.{Accounting}
use Rattle.view_accounts.specs.declared.session_needs.ClosedSession.{ClosedSession}

-- what a function gives for each number below this one, in turn
unfoldable pub in_turn : {X : Type 0} → (ℕ → List X) → ℕ → List X
in_turn f zero = []
in_turn f (suc n) = in_turn f n ++ f n

-- the selectors of a component are below this number
abbrev pub selector_count : ℕ
selector_count = 4097

-- the needs of all accounts, the peaks of the machine's init and of each component, and the values of the open sessions
pub record Measures : Type 0 where
  pub needs : Needs
  pub init : Amounts
  pub peak : ℕ → Amounts
  pub noted : ℕ → ℕ → Option Noted

abbrev pub entries_in : Listed → List Entry
entries_in listed = entries_of (start_list_of listed)

-- the name of the component at a place, or `?` if there is none
abbrev pub name_at : List Entry → Option ℕ → List ℕ
name_at entries (Some place) = if nat_lt place (length entries) then (entry_at entries place).name else codes "?"
name_at entries None = codes "?"

-- a session of a component under a selector, by its account, its need, and its values
abbrev pub session_row : List Entry → ℕ → ℕ → Option Account → Needed → Noted → SessionView
session_row entries component selector account needed noted = record {
  component = component;
  name = name_at entries (Some component);
  selector = selector;
  account = account;
  needed = needed;
  peak = noted.peak;
  server = name_at entries noted.server;
  label = noted.label;
}

-- the row of an open session, if there is one with values
abbrev pub open_row : List Entry → Needed → ℕ → ℕ → Option Account → Option Noted → List SessionView
open_row entries needed component selector (Some account) (Some noted) =
    session_row entries component selector (Some account) needed noted ∷ []
open_row entries needed component selector (Some account) None = []
open_row entries needed component selector None noted = []

-- of the session under a selector of a component
abbrev pub session_account : World → ℕ → ℕ → Option Account
session_account world component selector = option_map (λ (s : Session). s.account) (session_at component selector world)

abbrev pub session_rows : Listed → Measures → World → ℕ → ℕ → List SessionView
session_rows listed measures world component selector =
    open_row (entries_in listed) (measures.needs.session component selector) component selector (session_account world component selector)
    (measures.noted component selector)

-- the reserve of a component, if the list gives it one or it isn't empty
abbrev pub reserve_row : Option Amounts → Amounts → Option Amounts
reserve_row given reserve = if is_told given reserve then Some reserve else None

abbrev pub account_row : Listed → Measures → World → ℕ → AccountView
account_row listed measures world component = record {
  name = (entry_at (entries_in listed) component).name;
  account = account_at world component;
  needed = measures.needs.component component;
  peak = measures.peak component;
}

abbrev pub component_row : Listed → Measures → World → ℕ → ComponentView
component_row listed measures world component = record {
  account = account_row listed measures world component;
  reserve = reserve_row (listed_at listed component).reserve (state_at world.states component).reserve;
  sessions = in_turn (session_rows listed measures world component) selector_count;
}

abbrev pub init_row : Measures → World → AccountView
init_row measures world = record {
  name = codes "init";
  account = machine_init world;
  needed = measures.needs.init;
  peak = measures.init;
}

-- the rows of a machine of a list in a world
abbrev pub rows_in : Listed → Measures → List SessionView → World → AccountsView
rows_in listed measures closed world = record {
  init = init_row measures world;
  components = in_turn (λ component. component_row listed measures world component ∷ []) (length listed.entries);
  total = record { ram = all_ram world; caps = all_caps world };
  closed = closed;
}

-- ---- as they are kept

abbrev pub measures_kept : Accounting → Listed → Measures
measures_kept observer listed = record {
  needs = needs_by (needed_of observer.needs.meters.items) (needs_of_sessions observer.needs.sessions.opened) listed;
  init = peaked observer.peaks.init;
  peak = peak_at observer.peaks.components.items;
  noted = found observer.peaks.sessions;
}

-- a closed session
abbrev pub closed_row : List Entry → ClosedSession → SessionView
closed_row entries closed =
    session_row entries closed.session.component closed.session.selector None (record { need = amounts_of closed.need; gone = false })
    (noted_in closed.session)

abbrev pub closed_kept : Listed → List ClosedSession → List SessionView
closed_kept listed closed = map (closed_row (entries_in listed)) closed

abbrev pub rows_kept : Accounting → Listed → World → AccountsView
rows_kept observer listed world =
    rows_in listed (measures_kept observer listed) (closed_kept listed observer.needs.sessions.closed.items) world

-- ---- after calls

-- by the values of sessions
abbrev pub measures_after : OfSessions → Listed → World → List (List ℕ) → Measures
measures_after sessions listed start calls = record {
  needs = needs_after sessions.needs listed start calls;
  init = peak_of machine_init (worlds start calls);
  peak = λ component. peak_of (λ w. account_at w component) (worlds start calls);
  noted = λ component selector. Some (noted_of listed start calls component selector);
}

abbrev pub rows_after : OfSessions → Listed → World → List (List ℕ) → AccountsView
rows_after sessions listed start calls =
    rows_in listed (measures_after sessions listed start calls) (closed_kept listed sessions.closed) (world_running start calls)

-- if a run reached its end, these are the rows after all lines of its input, if that is known
abbrev pub ShowsRows : OfSessions → Listed → World → (List (List ℕ) → List LineStep) → Option LineRunFault → Option (List ℕ) →
    Result AccountRows AllocError → Type 0
ShowsRows sessions listed start steps fault input rows =
    IfNone fault (IfSome input (λ text. IfOk rows (λ shown.
    accounts_view shown ≡ rows_after sessions listed start (calls_answered None (steps (lines_of text))))))
