-- The text that a command writes for a scenario: the text for the lines that were run, and the text after it.
use Rattle.std.specs.Prelude.{◌≡◌, ◌⊎◌, ℕ, Bool, List, [], ◌++◌, length, Option, Some, None, IfSome, IfNone, Result, Ok, Err}
use Rattle.std.specs.Io.KnownBytes.{Appends}
use Rattle.own_model.specs.Listed.{Listed}
use Rattle.own_model.specs.Text.{lines_of}
use Rattle.own_model.specs.Transcript.{transcript_after}
use Rattle.own_model.specs.World.{World}
use Rattle.run_devices.specs.Lines.{AreReadable}
use Rattle.run_lines.specs.Machine.{world_of}
use Rattle.run_devices.specs.RunOutput.{AppendsPart}
use Rattle.run_scenario.specs.Judging.{Awaited, errors_of, nothing_awaited}
use Rattle.run_scenario.specs.RunCalls.{calls_answered}
use Rattle.run_scenario.specs.ScenarioRuns.{TakesMemoryFor, most_lines}
use Rattle.run_lines.specs.LineRuns.{EndsFor}
use Rattle.run_scenario.specs.LineSteps.{LineStep, steps_of}
use Rattle.run_scenario.specs.declared.scenario_end.ScenarioEnd.{ScenarioEnd}
use Rattle.run_lines.specs.declared.line_run_fault.LineRunFault.{LineRunFault}
use Rattle.run_lines.specs.declared.line_run_fault.LineRunFault.TheVariants.{ReadFault, WriteFault, TooManyLines, NoMemory}
use Rattle.line_steps.specs.RunPosition.{RunPosition}

-- all lines of a text
abbrev pub AreAll : List (List ℕ) → List ℕ → Type 0
AreAll lines text = lines_of text ≡ lines

-- all text for these lines is written, and the text after it; if a write failed a part of the text for the lines, or of both if
-- these are all lines; if the host was out of memory a part of the text for the lines; and at another fault all of it
abbrev pub WritesBoth : Option LineRunFault → Option (List ℕ) → List (List ℕ) → Option (List ℕ) → Option (List ℕ) →
    List ℕ → List ℕ → Type 0
WritesBoth None input lines old new told behind = Appends old new (told ++ behind)
WritesBoth (Some ReadFault) input lines old new told behind = Appends old new told
WritesBoth (Some WriteFault) input lines old new told behind =
    AppendsPart old new told ⊎ (IfSome input (AreAll lines) × AppendsPart old new (told ++ behind))
WritesBoth (Some TooManyLines) input lines old new told behind = Appends old new told
WritesBoth (Some NoMemory) input lines old new told behind = AppendsPart old new told

-- where a run begins: the list, whose calls are answered, the machine, the position, and the log lines that are expected
pub record RunStart : Type 0 where
  pub list : Listed
  pub only : Option (List ℕ)
  pub world : World
  pub position : RunPosition
  pub awaited : Awaited

abbrev pub start_at : Listed → Option (List ℕ) → World → RunPosition → Awaited → RunStart
start_at list only world position awaited =
    record { list = list; only = only; world = world; position = position; awaited = awaited }

-- the steps of a scenario's lines from there on
abbrev pub steps_from : RunStart → List (List ℕ) → List LineStep
steps_from start lines = steps_of start.only start.world start.position lines

-- a scenario was run, from its first line on, to its end or to a fault that has a cause, and this was written: the text for its
-- lines, and the text after it, by the steps of the lines. If there is no fault, its lines and its errors are counted, and the errors
-- are reported. It is given whether the text for calls takes memory of the host
pub record IsRunFrom (start : RunStart) (told behind : List LineStep → List ℕ) (calls : Bool) (reports : List (List ℕ) → Type 0) (ending : ScenarioEnd)
    (input rest : Option (List ℕ)) (failed : Bool) (written now_written : Option (List ℕ)) : Type 0 where
  pub given : List (List ℕ)
  pub readable : AreReadable given
  pub ends : EndsFor most_lines ending.fault given input rest failed
  pub takes : TakesMemoryFor calls ending.fault (steps_from start given)
  pub counted : IfNone ending.fault (ending.lines ≡ length given)
  pub complained : IfNone ending.fault
      (ending.complaints ≡ errors_of start.list start.only start.world start.awaited (steps_from start given))
  pub reported : IfNone ending.fault (reports given)
  pub writes : WritesBoth ending.fault input given written now_written (told (steps_from start given)) (behind (steps_from start given))

-- after a run that reached its end this is written, or a part of it if a write failed; after any other run nothing
abbrev pub WritesAfter : Option LineRunFault → Option LineRunFault → Option (List ℕ) → Option (List ℕ) → List ℕ → Type 0
WritesAfter None None old new behind = Appends old new behind
WritesAfter None (Some fault) old new behind = (fault ≡ WriteFault) × AppendsPart old new behind
WritesAfter (Some fault) ended old new behind = (ended ≡ Some fault) × (new ≡ old)

pub record Closes (played ended : ScenarioEnd) (old new : Option (List ℕ)) (behind : List ℕ) : Type 0 where
  pub lines : ended.lines ≡ played.lines
  pub complaints : ended.complaints ≡ played.complaints
  pub writes : WritesAfter played.fault ended.fault old new behind

-- all of a text is written, or a part of it if a write failed
abbrev pub IsWrittenBy : {T : Type 0} → Result T LineRunFault → Option (List ℕ) → Option (List ℕ) → List ℕ → Type 0
IsWrittenBy (Ok done) old new text = Appends old new text
IsWrittenBy (Err fault) old new text = (fault ≡ WriteFault) × AppendsPart old new text

-- the steps of a scenario's lines on the machine of a list, from its first position on
abbrev pub steps_on : Option (List ℕ) → RunPosition → Listed → List (List ℕ) → List LineStep
steps_on only first listed lines = steps_of only (world_of listed) first lines

-- a run begins there, and no log line is expected
abbrev pub start_on : Option (List ℕ) → RunPosition → Listed → RunStart
start_on only first listed = start_at listed only (world_of listed) first nothing_awaited

-- nothing is written
abbrev pub nothing_told : List LineStep → List ℕ
nothing_told steps = []

-- the transcript of the calls of lines in their steps, of all or of those of one name
abbrev pub transcript_of : Option (List ℕ) → World → List LineStep → List ℕ
transcript_of only world steps = transcript_after world.entries world.states [] (calls_answered only steps)
