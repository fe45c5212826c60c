-- The answers to the calls of a scenario, each in the step of its line.
use Rattle.std.specs.Prelude.{ℕ, ◌&&◌, ◌||◌, not, Bool, false, true, is_some, List, [], ◌∷◌, ◌++◌, length, nat_lt, if◌then◌else◌, Option, None}
use Rattle.std.specs.List.{flat_map}
use Rattle.own_model.specs.Listed.{Listed}
use Rattle.own_model.specs.Reply.{log_text}
use Rattle.own_model.specs.Transcript.{heard}
use Rattle.own_model.specs.World.{World}
use Rattle.line_friendly.specs.Expected.{is_misread}
use Rattle.line_steps.specs.ResolvedLines.{ResolvedLine}
use Rattle.line_steps.specs.ResolvedLines.ResolvedLine.{Log, Call}
use Rattle.line_steps.specs.RunPosition.{RunPosition}
use Rattle.line_names.specs.Filling.{FilledLine}
use Rattle.line_names.specs.NameTable.{NameTable}
use Rattle.run_lines.specs.Answer.{finished_lines}
use Rattle.run_scenario.specs.LineSteps.{is_meant_line, left_behind, next_position, reply_in, resolved_at}
use Rattle.run_scenario.specs.UnknownNames.{names_unknown}

-- the list, the position in the scenario, the world, and whether log lines are expected of the next call
pub record RecordingState : Type 0 where
  pub list : Listed
  pub position : RunPosition
  pub world : World
  pub awaits : Bool

-- before the first line
abbrev pub first_recording : Listed → World → RunPosition → RecordingState
first_recording list world start = record { list = list; position = start; world = world; awaits = false }

-- the log lines that a call finishes, unless log lines are expected of it already
abbrev pub lines_for : Bool → World → List ℕ → List ℕ
lines_for awaits world call =
    if awaits then [] else flat_map log_text (finished_lines world (heard world.entries call))

-- whether log lines are expected of the next call after a line
abbrev pub awaits_after : Bool → ResolvedLine → Bool
awaits_after awaits (Log text) = true
awaits_after awaits (Call filled call reply) = false
awaits_after awaits resolved = awaits

-- the call of a line isn't understood, by its reply or a name in it, and the line isn't meant
abbrev pub is_lost : Listed → List ℕ → List ℕ → List ℕ → Bool
is_lost list line call reply = (is_misread reply || names_unknown list call) && not (is_meant_line line)

-- an answered call: the values of names before it, whether its reply binds a name, whether a reply is expected, whether it isn't
-- understood, the engine's line, its reply, and the log lines to be expected of it
pub record RecordedCall : Type 0 where
  pub known : NameTable
  pub binds : Bool
  pub expects : Bool
  pub lost : Bool
  pub call : List ℕ
  pub reply : List ℕ
  pub lines : List ℕ

-- the result of a line's step: a log line that is expected, or a call
pub data Meeting : Type 0 where
  Logs : Meeting
  Hears : RecordedCall → Meeting

-- and the number of the line
pub record Event : Type 0 where
  pub number : ℕ
  pub meeting : Meeting

-- with `all` it doesn't count that log lines are expected already
abbrev pub hearing_of : Bool → RecordingState → List ℕ → FilledLine → List ℕ → Option (List ℕ) → RecordedCall
hearing_of all stage line filled call reply = record {
  known = stage.position.known;
  binds = nat_lt 0 (length filled.holes);
  expects = is_some reply;
  lost = is_lost stage.list line call (reply_in stage.world call);
  call = call;
  reply = reply_in stage.world call;
  lines = lines_for (stage.awaits && not all) stage.world call;
}

-- the result of the next line by what it is
abbrev pub events_in : Bool → RecordingState → List ℕ → ResolvedLine → List Event
events_in all stage line (Log text) = record { number = stage.position.number; meeting = Logs } ∷ []
events_in all stage line (Call filled call reply) =
    record { number = stage.position.number; meeting = Hears (hearing_of all stage line filled call reply) } ∷ []
events_in all stage line resolved = []

-- after a line of the scenario
abbrev pub recording_behind : RecordingState → List ℕ → RecordingState
recording_behind stage line = record {
  list = stage.list;
  position = next_position None stage.world stage.position line;
  world = left_behind None stage.world stage.position line;
  awaits = awaits_after stage.awaits (resolved_at None stage.position line);
}

-- all results of lines from a state on
abbrev pub events : Bool → RecordingState → List (List ℕ) → List Event
events all stage [] = []
events all stage (line ∷ lines) =
    events_in all stage line (resolved_at None stage.position line) ++ events all (recording_behind stage line) lines
