-- What a session's run shows of its lines.
use Rattle.std.specs.Prelude.{◌≡◌, ℕ, Bool, false, List, [], ◌∷◌, ◌++◌, slice_get, if◌then◌else◌, Option, Some, None}
use Rattle.std.specs.Str.{bytes_eq}
use Rattle.trade_base.specs.declared.refusal.Refusal.{Refusal}
use Rattle.trade_base.specs.declared.refusal.Refusal.TheVariants.{InsufficientRamQuota}
use Rattle.own_model.specs.Amounts.{Amounts}
use Rattle.own_model.specs.Call.{Call}
use Rattle.own_model.specs.Call.Call.{CallSession, Upgrade}
use Rattle.own_model.specs.Session.{Session, Served, served, too_small, upgraded}
use Rattle.own_model.specs.SessionArgs.{Arguments, arguments_of}
use Rattle.own_model.specs.World.{World}
use Rattle.budget_theorems.specs.Request.{donating, shows_session_short}
use Rattle.budget_meter.specs.Asked.{asked_in}
use Rattle.budget_meter.specs.SessionRuns.{Sent}
use Rattle.budget_meter.specs.Sessions.{IsLeft}
use Rattle.budget_meter.specs.declared.session.SessionMeter.{SessionMeter}
use Rattle.budget_search.specs.OpenedSessions.{HasSelectors, held}
use Rattle.budget_search.specs.RunLines.{RunLines, ended_by, no_lines, preceded, skipped_by}
use Rattle.budget_search.specs.Shortages.{shortage_reply}
use Rattle.budget_search.specs.Steps.{Mark, call_said, mark_of, number_at}
use Rattle.budget_search.specs.declared.component_line.ComponentLine.{ComponentLine}
use Rattle.budget_search.specs.declared.trial.RefusedLine.{RefusedLine}
use Rattle.budget_search.specs.declared.trial.SkippedLine.{SkippedLine}
use Rattle.budget_search.specs.declared.trial.Shortage.{Shortage}
use Rattle.budget_search.specs.declared.trial.Shortage.TheVariants.{SessionRam, SessionCaps, DonatedRam, DonatedCaps}

-- ---- shortages

-- the quota of which a session's account is short, by the reply to a request for which it is short
abbrev pub session_shortage : List ℕ → Shortage
session_shortage reply = if bytes_eq reply (shortage_reply SessionRam) then SessionRam else SessionCaps

-- what a donation is short of, by the reply to the opening
abbrev pub donated_shortage : List ℕ → Option Shortage
donated_shortage reply =
    if bytes_eq reply (shortage_reply DonatedRam) then Some DonatedRam
    else (if bytes_eq reply (shortage_reply DonatedCaps) then Some DonatedCaps else None)

-- what a donation is short of, by why it is too small
abbrev pub opening_shortage : Refusal → Shortage
opening_shortage InsufficientRamQuota = DonatedRam
opening_shortage refusal = DonatedCaps

-- a line with its shortage, if it has one
abbrev pub refused_line : ℕ → Option Shortage → Option RefusedLine
refused_line line None = None
refused_line line (Some shortage) = Some (record { line = line; shortage = shortage })

-- ---- runs

-- what the rest of a run shows, by the bytes of the session's buffer, if it has one, and the session
abbrev pub LinesAfter : Type 0
LinesAfter = Option (List ℕ) → Session → RunLines

-- a request of a line is served: the line ends the run if the session's account is short of quota for it
abbrev pub lines_served : ℕ → Served → LinesAfter → RunLines
lines_served line o rest =
    if shows_session_short o.reply then ended_by (Some (record { line = line; shortage = session_shortage o.reply }))
    else rest o.buffer o.session

-- a request of a line is made
abbrev pub lines_asking : ℕ → List ℕ → LinesAfter → LinesAfter
lines_asking line request rest = λ buffer session. lines_served line (served buffer session request) rest

-- a request is left out, in a run from a donation
abbrev pub lines_without : Amounts → Mark → List ℕ → LinesAfter → LinesAfter
lines_without donation mark request rest =
    λ buffer session. preceded (skipped_by donation session.account mark (asked_in session.state request)) (rest buffer session)

-- an upgrade donates more, if its arguments are in the grammar
abbrev pub lines_raising : Option Arguments → LinesAfter → LinesAfter
lines_raising None rest = rest
lines_raising (Some more) rest = λ buffer session. rest buffer (upgraded session more.ram more.caps)

-- the call of a line that reaches the session, for any selector in it: a line that is left out makes none
abbrev pub lines_calling : Amounts → Mark → Option Call → LinesAfter → LinesAfter
lines_calling donation mark None rest = rest
lines_calling donation mark (Some (CallSession selector request)) rest =
    if mark.left_out then lines_without donation mark request rest else lines_asking mark.number request rest
lines_calling donation mark (Some (Upgrade selector text)) rest = if mark.left_out then rest else lines_raising (arguments_of text) rest
lines_calling donation mark (Some call) rest = rest

-- whether a line is there and left out
abbrev pub is_skipped : Option ComponentLine → Bool
is_skipped None = false
is_skipped (Some step) = step.is_left_out

-- a line, if there is one
abbrev pub lines_step : Amounts → Option ComponentLine → LinesAfter → LinesAfter
lines_step donation None rest = rest
lines_step donation (Some step) rest = lines_calling donation (mark_of step) (call_said step.line.items) rest

-- the lines at these places
abbrev pub lines_at : Amounts → List ComponentLine → List ℕ → LinesAfter
lines_at donation steps [] = λ buffer session. no_lines
lines_at donation steps (place ∷ places) = lines_step donation (slice_get steps place) (lines_at donation steps places)

-- ---- with the opening

-- the opening is first: its line ends the run if its donation is too small
abbrev pub lines_opening : ℕ → Option Refusal → RunLines → RunLines
lines_opening line None rest = rest
lines_opening line (Some refusal) rest = ended_by (Some (record { line = line; shortage = opening_shortage refusal }))

-- of the run of a session that the line at a place opens with a donation, and that the lines at other places reach
abbrev pub session_lines : List ComponentLine → ℕ → List ℕ → Session → Amounts → RunLines
session_lines steps opening places session donation =
    lines_opening (number_at steps opening) (too_small donation.ram donation.caps)
    (lines_at donation steps places None (donating donation session))

-- ---- the state of the client

-- the rest of a session's run shows its lines after those that were left out so far: together they are those of the whole run. The
-- run's meter observed no shortfall
pub record HasSessionLeft (world : World) (client : ℕ) (heard : SessionMeter) (session : Session) (donation : Amounts) (so_far : List SkippedLine) (rest : LinesAfter) (whole : RunLines) : Type 0 where
  pub now : Session
  pub buffer : Option (List ℕ)
  pub has : HasSelectors world client (held now buffer)
  pub sent : List Sent
  pub left : (more : List Sent) → IsLeft (sent ++ more) more donation session buffer now heard
  pub whole_is : preceded so_far (rest buffer now) ≡ whole
