-- The rows of a trace.
use Rattle.std.specs.Prelude.{ℕ, ◌+◌, List, ◌∷◌, ◌++◌, [], length, drop, Option, Some, None}
use Rattle.std.specs.FinMap.{get}
use Rattle.std.specs.Option.{option_and_then, option_map}
use Rattle.own_model.specs.Account.{Account}
use Rattle.own_model.specs.Call.{Call, Spoken}
use Rattle.own_model.specs.Call.Call.{Upgrade, CallSession, Close}
use Rattle.own_model.specs.Listed.{Listed}
use Rattle.own_model.specs.OwnState.{OwnState, session_named}
use Rattle.own_model.specs.Reply.{reply_text}
use Rattle.own_model.specs.Session.{Session}
use Rattle.own_model.specs.Transcript.{Heard, heard, state_at}
use Rattle.own_model.specs.Transcript.Heard.{NoCall, Stranger, Caller}
use Rattle.own_model.specs.World.{World, account_at, world_running}
use Rattle.run_lines.specs.Answer.{answered_name, answered_reply}
use Rattle.run_scenario.specs.RunCalls.{text_of_steps}
use Rattle.run_scenario.specs.Said.{said_in}
use Rattle.run_scenario.specs.Texts.{line_text}
use Rattle.run_scenario.specs.LineSteps.{LineStep}
use Rattle.run_lines.specs.Machine.{world_of}

-- the call after the name and a space, or a line that is none
abbrev pub text_behind : Option Spoken → List ℕ → List ℕ
text_behind None line = line
text_behind (Some says) line = drop (length says.name + 1) line

abbrev pub call_text : List ℕ → List ℕ
call_text line = text_behind (said_in line) line

-- the selector of the session that a call names
abbrev pub session_of : Call → Option ℕ
session_of (Upgrade selector text) = Some selector
session_of (CallSession selector request) = Some selector
session_of (Close selector) = Some selector
session_of call = None

-- a session with its account
pub record SessionAccount : Type 0 where
  pub selector : ℕ
  pub account : Account

-- a row: the number of the call's line, the component, the call and its reply; the component's account after the call, if a
-- component has this name; the session that the call names with its account, if it is open; and the text of the call's bytes, if it has some
pub record TraceRow : Type 0 where
  pub number : ℕ
  pub component : List ℕ
  pub call : List ℕ
  pub reply : List ℕ
  pub account : Option Account
  pub session : Option SessionAccount
  pub text : Option (List ℕ)

-- a session that is open, by its selector
abbrev pub session_at : OwnState → ℕ → Option SessionAccount
session_at s selector =
    option_map (λ (it : Session). record { selector = selector; account = it.account }) (session_named (get s.selectors selector))

-- the account of a call's component in a world; a line that is no call and a name that no component has have none
abbrev pub account_in : World → Heard → Option Account
account_in world NoCall = None
account_in world (Stranger name) = None
account_in world (Caller made) = Some (account_at world made.component)

-- the session that a call names
abbrev pub session_in : World → Heard → Option SessionAccount
session_in world NoCall = None
session_in world (Stranger name) = None
session_in world (Caller made) = option_and_then (session_at (state_at world.states made.component)) (session_of made.call)

-- the row of a call in a world, by a line of this number
abbrev pub trace_row : World → ℕ → List ℕ → TraceRow
trace_row before number call =
    let what = heard before.entries call in
    let after = world_running before (call ∷ []) in
    record {
      number = number;
      component = answered_name before what;
      call = call_text call;
      reply = reply_text (answered_reply before what);
      account = account_in after what;
      session = session_in after what;
      text = line_text call;
    }

-- the text of a call's row, by the text of each row
abbrev pub trace_call_text : (TraceRow → List ℕ) → World → List (List ℕ) → ℕ → List ℕ → List ℕ
trace_call_text row_text start earlier number call = row_text (trace_row (world_running start earlier) number call)

-- a trace: the text before the rows, and a row for each call
abbrev pub trace_text : List ℕ → (TraceRow → List ℕ) → Listed → List LineStep → List ℕ
trace_text front row_text listed steps = front ++ text_of_steps (trace_call_text row_text (world_of listed)) None [] steps
