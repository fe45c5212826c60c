-- The lines that reach the sessions of a component.
use Rattle.std.specs.Prelude.{◌≡◌, ◌≢◌, ◌⊎◌, ◌+◌, ◌&&◌, ℕ, Bool, true, false, not, List, [], ◌∷◌, ◌++◌, codes, is_some, length, map, replicate, slice_get, if◌then◌else◌, Option, Some, None, IfSome, IfNone}
use Rattle.std.specs.Option.{option_and_then}
use Rattle.std.specs.Str.{bytes_eq}
use Rattle.own_model.specs.Amounts.{Amounts, no_amounts}
use Rattle.own_model.specs.Call.{Call, is_exit}
use Rattle.own_model.specs.Call.Call.{Open, CallSession, Upgrade, Close}
use Rattle.own_model.specs.Listed.{Listed}
use Rattle.own_model.specs.Reply.{reply_text}
use Rattle.own_model.specs.Reply.Reply.{Selected}
use Rattle.own_model.specs.SessionArgs.{Arguments, arguments_of}
use Rattle.own_model.specs.StartList.{Entry}
use Rattle.list_parser.specs.Budgets.{changed_at}
use Rattle.budget_meter.specs.Needs.{amounts_of}
use Rattle.budget_search.specs.AmpleCalls.{Client, first_client, made_with_enough, of_word}
use Rattle.budget_search.specs.OpenedSessions.{opened_with, raised_in, sent_at}
use Rattle.budget_search.specs.Steps.{call_said}
use Rattle.budget_search.specs.declared.component_line.ComponentLine.{ComponentLine}
use Rattle.budget_search.specs.declared.opened_sessions.OpenedSession.{OpenedSession}
use Rattle.budget_search.specs.declared.opened_sessions.OpenedSessions.{OpenedSessions}

-- a session: the place of the line that opens it, its selector, the donation of its opening, what its upgrades donate in all, and
-- the places of the lines that reach it
pub record Reached : Type 0 where
  pub opening : ℕ
  pub selector : ℕ
  pub donation : Amounts
  pub raised : Amounts
  pub places : List ℕ

abbrev pub reached_of : OpenedSession → Reached
reached_of opened = record {
  opening = opened.step;
  selector = opened.selector;
  donation = amounts_of opened.donation;
  raised = amounts_of opened.raised;
  places = opened.steps.items;
}

-- the sessions of a component, in the order of their openings, and which of them each selector names
pub record Sessions : Type 0 where
  pub opened : List Reached
  pub owners : List (Option ℕ)

abbrev pub sessions_of : OpenedSessions → Sessions
sessions_of sessions = record { opened = map reached_of sessions.opened.items; owners = sessions.owners.items }

-- the upgrades of a session donate what the lines at its places do, at most 2^64 - 1 of each
pub record IsRaised (steps : List ComponentLine) (one : Reached) : Type 0 where
  pub ram : one.raised.ram ≡ of_word (raised_in (sent_at steps one.places)).ram
  pub caps : one.raised.caps ≡ of_word (raised_in (sent_at steps one.places)).caps

-- and a client with this entry has a route for its opening
pub record IsOfLines (entry : Entry) (steps : List ComponentLine) (one : Reached) : Type 0 where
  pub routed : is_some (opened_with entry (slice_get steps one.opening)) ≡ true
  pub raised : IsRaised steps one

-- before the first line: the 4096 selectors, and 0, which is none, name nothing
abbrev pub unopened : Sessions
unopened = record { opened = []; owners = replicate 4097 None }

abbrev pub named_in : Sessions → ℕ → Option ℕ
named_in sessions selector = option_and_then (λ owner. owner) (slice_get sessions.owners selector)

-- a line reaches a session, or none
abbrev pub reached_by : Option ℕ → ℕ → List Reached → List Reached
reached_by None place opened = opened
reached_by (Some session) place opened = changed_at (λ one. record one { places = one.places ++ place ∷ [] }) opened session

-- the line at a place reaches the session that a selector names
abbrev pub reaches : ℕ → ℕ → Sessions → Sessions
reaches selector place sessions = record sessions { opened = reached_by (named_in sessions selector) place sessions.opened }

-- the upgrades of a session donate so much more, at most 2^64 - 1 in all
abbrev pub raised_with : Arguments → Reached → Reached
raised_with more one = record one {
  raised = record { ram = of_word (one.raised.ram + more.ram); caps = of_word (one.raised.caps + more.caps) };
}

-- what arguments donate is one more upgrade of the session that a selector names
abbrev pub raised_by : Option ℕ → Option Arguments → List Reached → List Reached
raised_by None more opened = opened
raised_by (Some session) None opened = opened
raised_by (Some session) (Some more) opened = changed_at (raised_with more) opened session

abbrev pub upgrades : ℕ → Option Arguments → Sessions → Sessions
upgrades selector more sessions = record sessions { opened = raised_by (named_in sessions selector) more sessions.opened }

-- a selector names this session from now on, or none
abbrev pub names : ℕ → Option ℕ → Sessions → Sessions
names selector owner sessions = record sessions { owners = changed_at (λ other. owner) sessions.owners selector }

-- a session that the line at a place has just opened
abbrev pub first_reached : ℕ → ℕ → Arguments → Reached
first_reached place selector named = record {
  opening = place;
  selector = selector;
  donation = record { ram = named.ram; caps = named.caps };
  raised = no_amounts;
  places = [];
}

-- the line at a place opens one session more, if its arguments are in the grammar, and the reply has a selector
abbrev pub opens : ℕ → Option Arguments → Option ℕ → Sessions → Sessions
opens place None given sessions = sessions
opens place (Some named) None sessions = sessions
opens place (Some named) (Some selector) sessions = record {
  opened = sessions.opened ++ first_reached place selector named ∷ [];
  owners = changed_at (λ other. Some (length sessions.opened)) sessions.owners selector;
}

-- what came of a call: the selector in its reply, if it has one, and whether it is done
pub record Came : Type 0 where
  pub selector : Option ℕ
  pub done : Bool

abbrev pub came_with : Option ℕ → Bool → Came
came_with selector done = record { selector = selector; done = done }

-- the text of a reply shows what came of the call
pub record IsShown (text : List ℕ) (came : Came) : Type 0 where
  pub selected : IfSome came.selector (λ selector. text ≡ reply_text (Selected selector))
  pub unselected : IfNone came.selector ((selector : ℕ) → text ≢ reply_text (Selected selector))
  pub done : came.done ≡ bytes_eq text (codes "ok")

-- the sessions after the call of the line at a place
abbrev pub after_call : Came → ℕ → Call → Sessions → Sessions
after_call what place (Open service text) sessions = opens place (arguments_of text) what.selector sessions
after_call what place (CallSession selector request) sessions = reaches selector place sessions
after_call what place (Upgrade selector text) sessions =
    if what.done then reaches selector place (upgrades selector (arguments_of text) sessions) else sessions
after_call what place (Close selector) sessions = if what.done then names selector None sessions else sessions
after_call what place call sessions = sessions

-- and after one that isn't made: a request is one of its session all the same
abbrev pub after_left_out : ℕ → Call → Sessions → Sessions
after_left_out place (CallSession selector request) sessions = reaches selector place sessions
after_left_out place call sessions = sessions

-- a client that is followed, and its sessions
pub record Followed : Type 0 where
  pub client : Client
  pub sessions : Sessions

abbrev pub followed : Client → Sessions → Followed
followed client sessions = record { client = client; sessions = sessions }

-- a component before its first line, on the machine of a list
abbrev pub followed_from : Listed → ℕ → Followed
followed_from list component = record { client = first_client list component; sessions = unopened }

-- the call of the line at a place is made with enough, and the sessions are those that its reply shows; or it is left out
abbrev pub IsFollowed : Bool → ℕ → Call → Followed → Followed → Type 0
IsFollowed true place call old new = new ≡ record old { sessions = after_left_out place call old.sessions }
IsFollowed false place call old new =
    (new.client ≡ made_with_enough call old.client)
    × ((came : Came) × (IsShown new.client.text came × (new.sessions ≡ after_call came place call old.sessions)))

-- an exit ends the lines, unless it is left out
abbrev pub ends_lines : Bool → Call → Bool
ends_lines left_out call = not left_out && is_exit call

-- a line and those after it end with these sessions
abbrev pub ReachBy : Bool → Option Call → ℕ → (Followed → Type 0) → Followed → Sessions → Type 0
ReachBy left_out None place rest old end = rest old
ReachBy left_out (Some call) place rest old end =
    ((ends_lines left_out call ≡ true) × (end ≡ old.sessions))
    ⊎ ((ends_lines left_out call ≡ false) × ((next : Followed) × (IsFollowed left_out place call old next × rest next)))

-- the lines of a component, from the one at a place on, end with these sessions
abbrev pub Reach : List ComponentLine → ℕ → Followed → Sessions → Type 0
Reach [] place old end = end ≡ old.sessions
Reach (step ∷ steps) place old end =
    ReachBy step.is_left_out (call_said step.line.items) place (λ next. Reach steps (place + 1) next end) old end
