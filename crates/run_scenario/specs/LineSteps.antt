-- The steps of a run: what each line of a scenario is after substitution.
use Rattle.std.specs.Prelude.{◌≡◌, ◌||◌, ℕ, Bool, false, ⊤, List, [], ◌∷◌, length, nat_le, nat_lt, if◌then◌else◌, Option, Some, None, Result, Ok, Err}
use Rattle.own_model.specs.Reply.{reply_text}
use Rattle.own_model.specs.LinesOfName.{said_by}
use Rattle.own_model.specs.Transcript.{heard, longest_line}
use Rattle.own_model.specs.World.{World}
use Rattle.line_friendly.specs.Friendly.{FriendlyLine, content_of, is_meant, is_passed, said_of}
use Rattle.line_friendly.specs.Friendly.FriendlyLine.{Nothing as NoContent, Log as LogContent, Call as CallContent}
use Rattle.line_friendly.specs.Theorems.{IsBare}
use Rattle.line_friendly.specs.declared.fault.FriendlyFault.{FriendlyFault}
use Rattle.line_steps.specs.ResolvedLines.{ResolvedLine, is_skipped, resolved_line}
use Rattle.line_steps.specs.ResolvedLines.ResolvedLine.{TooLong, Skipped, Follow, Nothing, Log, Call, BadLine}
use Rattle.line_steps.specs.RunPosition.{RunPosition, arrived, crosses, position_following, number_after, passed}
use Rattle.run_lines.specs.Answer.{answered_reply}
use Rattle.run_lines.specs.Answered.{after_all}
use Rattle.run_lines.specs.declared.line_answer.LineAnswer.{LineAnswer}
use Rattle.line_names.specs.Filling.{FilledLine, whole}
use Rattle.line_names.specs.NameTable.{NameTable}
use Rattle.line_names.specs.Learning.{learnt}

-- a line may have any reply: it is passed to the engine unchanged after a `!`, or its expectation ends in a `!`
abbrev pub is_meant_line : List ℕ → Bool
is_meant_line line = is_passed line || is_meant (content_of line)

-- the step of a line: its number, whether it may have any reply, what it is then, and whether rounds begin or end after it
pub record LineStep : Type 0 where
  pub number : ℕ
  pub meant : Bool
  pub resolved : ResolvedLine
  pub crosses : Bool

-- the engine's line of a line, if it is a call
abbrev pub calls_in : ResolvedLine → List (List ℕ)
calls_in (Call filled line reply) = line ∷ []
calls_in resolved = []

-- a plain call isn't filled, and has no expected reply
abbrev pub plain_line : List ℕ → ResolvedLine
plain_line line = Call (whole line) line None

-- what a line is at a position of the run
abbrev pub resolved_at : Option (List ℕ) → RunPosition → List ℕ → ResolvedLine
resolved_at only position line = resolved_line only position.known line

abbrev pub step_of : Option (List ℕ) → RunPosition → List ℕ → LineStep
step_of only position line = record {
  number = position.number;
  meant = is_meant_line line;
  resolved = resolved_at only position line;
  crosses = crosses position;
}

-- the engine's line that a line says then, if it says a call
abbrev pub call_of : Option (List ℕ) → RunPosition → List ℕ → List (List ℕ)
call_of only position line = calls_in (resolved_at only position line)

-- a line has names that its reply binds
abbrev pub binds_names : FilledLine → Bool
binds_names filled = nat_lt 0 (length filled.holes)

-- the values of names after an answer, unless the call was skipped
abbrev pub learnt_by : NameTable → FilledLine → Option LineAnswer → NameTable
learnt_by known filled None = known
learnt_by known filled (Some answer) = learnt known filled answer.reply.now

-- the reply to a call
abbrev pub reply_in : World → List ℕ → List ℕ
reply_in world call = reply_text (answered_reply world (heard world.entries call))

-- and after the calls that are answered in this world, of which there is one at most
abbrev pub learnt_from : World → NameTable → FilledLine → List (List ℕ) → NameTable
learnt_from world known filled [] = known
learnt_from world known filled (call ∷ calls) = learnt known filled (reply_in world call)

-- the position after a line was run in this world: its number was passed, and rounds may begin or end after it
abbrev pub position_after : Option (List ℕ) → World → RunPosition → ResolvedLine → RunPosition
position_after only world position (Follow directive) = position_following position directive
position_after only world position (Call filled line reply) =
    record position { known = learnt_from world position.known filled (said_by only (line ∷ [])) }
position_after only world position resolved = position

-- the same by how its call was answered
abbrev pub position_with : RunPosition → ResolvedLine → Option LineAnswer → RunPosition
position_with position (Follow directive) answer = position_following position directive
position_with position (Call filled line reply) answer = record position { known = learnt_by position.known filled answer }
position_with position resolved answer = position

-- the position after a line, by the answer to its call: its number was passed, and rounds may begin or end
pub record Arrives (position : RunPosition) (resolved : ResolvedLine) (answer : Option LineAnswer) (next : RunPosition) : Type 0 where
  pub is : next ≡ arrived (position_with (passed position) resolved answer)

abbrev pub next_position : Option (List ℕ) → World → RunPosition → List ℕ → RunPosition
next_position only world position line = arrived (position_after only world (passed position) (resolved_at only position line))

-- and the world that it leaves
abbrev pub left_behind : Option (List ℕ) → World → RunPosition → List ℕ → World
left_behind only world position line = after_all only world (call_of only position line)

-- the steps of lines from a position on, in this world: all calls are answered, or those of one name
abbrev pub steps_of : Option (List ℕ) → World → RunPosition → List (List ℕ) → List LineStep
steps_of only world position [] = []
steps_of only world position (line ∷ lines) =
    step_of only position line ∷ steps_of only (left_behind only world position line) (next_position only world position line) lines

-- the position after them
abbrev pub position_behind : Option (List ℕ) → World → RunPosition → List (List ℕ) → RunPosition
position_behind only world position [] = position
position_behind only world position (line ∷ lines) =
    position_behind only (left_behind only world position line) (next_position only world position line) lines

-- ---- a scenario without names and directives

-- each line has neither
abbrev pub AreBare : List (List ℕ) → Type 0
AreBare [] = ⊤
AreBare (line ∷ lines) = IsBare line × AreBare lines

-- what this line is, for any values of names
abbrev pub bare_content : List ℕ → Result FriendlyLine FriendlyFault → ResolvedLine
bare_content line (Ok NoContent) = Nothing
bare_content line (Ok (LogContent text)) = Log text
bare_content line (Ok (CallContent call reply)) = Call (whole line) call reply
bare_content line (Err fault) = BadLine fault

abbrev pub bare_line : Option (List ℕ) → List ℕ → ResolvedLine
bare_line only line =
    if nat_le (length line) longest_line
    then (if is_skipped only line then Skipped else bare_content line (said_of line))
    else TooLong

-- the steps of unchanged lines, from one of this number on
abbrev pub steps_from_line : Option (List ℕ) → ℕ → List (List ℕ) → List LineStep
steps_from_line only number [] = []
steps_from_line only number (line ∷ lines) =
    record { number = number; meant = is_meant_line line; resolved = bare_line only line; crosses = false } ∷ steps_from_line only (number_after number) lines

-- bare lines of a scenario without rounds are run unchanged, one after another, for any values of names and any answers
abbrev pub BareLinesStay : Type 0
BareLinesStay =
    (only : Option (List ℕ)) (world : World) (position : RunPosition) (lines : List (List ℕ)) → position.ahead ≡ [] → AreBare lines →
    steps_of only world position lines ≡ steps_from_line only position.number lines
