-- Calls of many components, the answer to each, and the transcript of an input.
use Rattle.std.specs.Prelude.{ℕ, ◌==◌, ◌++◌, List, [], ◌∷◌, length, nat_le, slice_index_or, if◌then◌else◌, Option, Some, None, codes}
use Rattle.std.specs.List.{flat_map, position}
use Rattle.std.specs.Str.{bytes_eq}
use Rattle.trade_base.specs.declared.refusal.Refusal.TheVariants.{BadLine, UnknownComponent}
use Rattle.own_model.specs.Call.{Call, Spoken, parsed_call}
use Rattle.own_model.specs.OwnState.{OwnState}
use Rattle.own_model.specs.OwnStep.{Outcome, exited_state, own_step, own_run}
use Rattle.own_model.specs.Reply.{Reply, reply_text, log_text}
use Rattle.own_model.specs.Reply.Reply.{Refused}
use Rattle.own_model.specs.StartList.{Entry, Kind}
use Rattle.own_model.specs.StartList.Kind.{Script, Server, Init}
use Rattle.own_model.specs.Text.{lines_of}

-- a call, and the component that makes it by its number in the start list
pub record Made : Type 0 where
  pub component : ℕ
  pub call : Call

-- one component's calls out of those of all, in order
abbrev pub own_part : ℕ → List Made → List Call
own_part component [] = []
own_part component (made ∷ rest) =
    if made.component == component then made.call ∷ own_part component rest
    else own_part component rest

-- a number that the list doesn't have is a server without anything
abbrev pub nobody : Entry
nobody = record { name = []; label = []; kind = Server; home = 0; routes = [] }

abbrev pub entry_at : List Entry → ℕ → Entry
entry_at entries component = slice_index_or entries component nobody

-- what it has: nothing, as if it had exited
abbrev pub nothing : OwnState
nothing = exited_state

abbrev pub state_at : List OwnState → ℕ → OwnState
state_at states component = slice_index_or states component nothing

-- a component's own state after the calls of all: its own run on its own part
abbrev pub state_after : List Entry → List OwnState → List Made → ℕ → OwnState
state_after entries starts calls component =
    own_run (entry_at entries component) (own_part component calls) (state_at starts component)

-- the answer to a call after earlier calls of all
abbrev pub answer : List Entry → List OwnState → List Made → Made → Outcome
answer entries starts earlier made =
    own_step (entry_at entries made.component) made.call (state_after entries starts earlier made.component)

-- how a line is classified by a machine with these entries: no call, one of a name that no component has, or a component's
pub data Heard : Type 0 where
  NoCall : Heard
  Stranger : List ℕ → Heard
  Caller : Made → Heard

-- the longest line that is read as a call, in bytes
abbrev pub longest_line : ℕ
longest_line = 8192

-- an init makes no calls: its name is none that a line can call
abbrev pub classify_call : Kind → Spoken → ℕ → Heard
classify_call Script says component = Caller (record { component = component; call = says.call })
classify_call Server says component = Caller (record { component = component; call = says.call })
classify_call Init says component = Stranger says.name

abbrev pub heard_call : List Entry → Spoken → Option ℕ → Heard
heard_call entries says None = Stranger says.name
heard_call entries says (Some component) = classify_call (entry_at entries component).kind says component

abbrev pub heard_spoken : List Entry → Option Spoken → Heard
heard_spoken entries None = NoCall
heard_spoken entries (Some says) = heard_call entries says (position (λ entry. bytes_eq entry.name says.name) entries)

abbrev pub heard : List Entry → List ℕ → Heard
heard entries line = if nat_le (length line) longest_line then heard_spoken entries (parsed_call line) else NoCall

-- the calls in a classified line
abbrev pub calls_in : Heard → List Made
calls_in NoCall = []
calls_in (Stranger name) = []
calls_in (Caller made) = made ∷ []

-- a name and its reply, as a line
abbrev pub reply_line : List ℕ → Reply → List ℕ
reply_line name reply = name ++ codes ": " ++ reply_text reply ++ 10 ∷ []

-- the finished lines of an outcome, and the reply
abbrev pub outcome_text : List ℕ → Outcome → List ℕ
outcome_text name outcome = flat_map log_text outcome.lines ++ reply_line name outcome.reply

-- the output for a line after earlier calls
abbrev pub told : List Entry → List OwnState → List Made → Heard → List ℕ
told entries starts earlier NoCall = reply_line (codes "?") (Refused BadLine)
told entries starts earlier (Stranger name) = reply_line name (Refused UnknownComponent)
told entries starts earlier (Caller made) =
    outcome_text (entry_at entries made.component).name (answer entries starts earlier made)

-- the output for lines, one after another, after earlier calls
abbrev pub transcript_after : List Entry → List OwnState → List Made → List (List ℕ) → List ℕ
transcript_after entries starts earlier [] = []
transcript_after entries starts earlier (line ∷ lines) =
    told entries starts earlier (heard entries line)
    ++ transcript_after entries starts (earlier ++ calls_in (heard entries line)) lines

-- the transcript of an input: each line in turn, each call answered by its caller's own run on its own part of the calls before
abbrev pub transcript : List Entry → List OwnState → List ℕ → List ℕ
transcript entries starts input = transcript_after entries starts [] (lines_of input)

-- the calls of an input
abbrev pub calls_of : List Entry → List (List ℕ) → List Made
calls_of entries lines = flat_map (λ line. calls_in (heard entries line)) lines
