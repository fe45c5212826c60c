-- What is kept of peaks, and what it says of the accounts so far.
use Rattle.std.specs.Prelude.{◌≡◌, ℕ, ◌<◌, ◌==◌, ◌&&◌, Bool, false, List, length, max, slice_index_or, if◌then◌else◌, Option, Some, None}
use Rattle.std.specs.Option.{option_map, option_or}
use Rattle.own_model.specs.Account.{Account}
use Rattle.own_model.specs.Amounts.{Amounts}
use Rattle.own_model.specs.Call.{Call}
use Rattle.own_model.specs.Call.Call.{Open, Upgrade, CallSession, Close, Exit}
use Rattle.own_model.specs.Listed.{Listed, route_of}
use Rattle.own_model.specs.Routes.{label_with}
use Rattle.own_model.specs.Session.{Session, given}
use Rattle.own_model.specs.Transcript.{entry_at}
use Rattle.own_model.specs.World.{World, account_at, machine_init, world_running}
use Rattle.view_accounts.specs.Peaks.{Noted, is_open, noted_of, peak_of, session_at, worlds}
use Rattle.view_accounts.specs.SessionTable.{value_at}
use Rattle.view_accounts.specs.declared.peaks.Peak.{Peak}
use Rattle.view_accounts.specs.declared.peaks.SessionPeak.{SessionPeak as Kept}
use Rattle.view_accounts.specs.declared.session_outcome.SessionOutcome.{SessionOutcome}
use Rattle.view_accounts.specs.declared.session_table.SessionTable.{SessionTable}

abbrev pub peaked : Peak → Amounts
peaked peak = record { ram = peak.ram.0; caps = peak.caps.0 }

-- of the component at a place
abbrev pub peak_at : List Peak → ℕ → Amounts
peak_at peaks place = peaked (slice_index_or peaks place (record { ram = record { 0 = 0 }; caps = record { 0 = 0 } }))

abbrev pub noted_in : Kept → Noted
noted_in session = record { peak = peaked session.peak; server = session.server; label = session.label.items }

-- what is kept of the session under a selector of a component
abbrev pub found : SessionTable Kept → ℕ → ℕ → Option Noted
found sessions component selector = option_map noted_in (value_at sessions component selector)

-- ---- after one more call

-- a peak after this use of an account
abbrev pub grown : Amounts → Account → Amounts
grown peak account = record { ram = max peak.ram account.ram_used; caps = max peak.caps account.caps_used }

-- the use of an account
abbrev pub in_use : Account → Amounts
in_use account = record { ram = account.ram_used; caps = account.caps_used }

-- the values of a session after this use of its account
abbrev pub noted_more : Noted → Account → Noted
noted_more noted account = record noted { peak = grown noted.peak account }

-- the values of a session, if it is still open
abbrev pub raised_in : Option Session → Option Noted → Option Noted
raised_in None noted = None
raised_in (Some session) noted = option_map (λ n. noted_more n session.account) noted

-- what is noted of a session that was just opened, if there is one, by its server and its label
abbrev pub begun_as : World → Option ℕ → List ℕ → ℕ → ℕ → Option Noted
begun_as world server label component selector =
    option_map (λ (session : Session). record { peak = in_use session.account; server = server; label = label })
    (session_at component selector world)

-- by the arguments of its request
abbrev pub begun_with : Listed → World → List ℕ → List ℕ → ℕ → ℕ → Option Noted
begun_with listed world service text component selector =
    begun_as world (route_of listed component service (given text).label)
    (label_with (entry_at world.entries component).label (given text).label) component selector

-- what is noted of the session under a selector of a component, by what was noted, once a component asked for a session: the one
-- under this selector was opened, or none
abbrev pub noted_opened : Listed → World → ℕ → List ℕ → List ℕ → Option ℕ → ℕ → ℕ → Option Noted → Option Noted
noted_opened listed world component service text (Some selector) c q was =
    option_or (if c == component && q == selector then begun_with listed world service text component selector else None) was
noted_opened listed world component service text None c q was = was

-- once it made another call of the session under a selector
abbrev pub noted_named : World → ℕ → ℕ → ℕ → ℕ → Option Noted → Option Noted
noted_named world component selector c q was =
    if c == component && q == selector then raised_in (session_at c q world) was else was

-- and once it exited, or was refused to
abbrev pub noted_exited : ℕ → Bool → ℕ → Option Noted → Option Noted
noted_exited component exited c was = if exited && c == component then None else was

-- once it made any call
abbrev pub noted_after : Listed → World → ℕ → Call → SessionOutcome → ℕ → ℕ → Option Noted → Option Noted
noted_after listed world component (Open service text) outcome c q was =
    noted_opened listed world component service text outcome.opened c q was
noted_after listed world component (Upgrade selector text) outcome c q was = noted_named world component selector c q was
noted_after listed world component (CallSession selector request) outcome c q was = noted_named world component selector c q was
noted_after listed world component (Close selector) outcome c q was = noted_named world component selector c q was
noted_after listed world component Exit outcome c q was = noted_exited component outcome.is_done c was
noted_after listed world component call outcome c q was = was

-- ---- so far

-- it is that of all accounts of a machine so far: of its init, of each component, and of each session that is open
pub record SeesPeaks (init : Amounts) (components : List Peak) (sessions : SessionTable Kept) (listed : Listed) (start : World)
    (earlier : List (List ℕ)) : Type 0 where
  pub of_init : init ≡ peak_of machine_init (worlds start earlier)
  pub count : length components ≡ length start.entries
  pub of_components : (place : ℕ) → place < length start.entries →
      peak_at components place ≡ peak_of (λ w. account_at w place) (worlds start earlier)
  pub none_at_start : (component selector : ℕ) → is_open component selector start ≡ false
  pub of_sessions : (component selector : ℕ) → component < length start.entries →
      found sessions component selector
      ≡ (if is_open component selector (world_running start earlier) then Some (noted_of listed start earlier component selector) else None)
