-- How far a run of the friendly form is, and how it ends.
use Rattle.std.specs.Prelude.{◌≡◌, ℕ, ◌+◌, ◌^◌, ◌<◌, ◌≤◌, ◌||◌, Bool, true, false, ⊤, List, [], ◌∷◌, ◌++◌, length, Option, Some, None, IfSome, IfNone, IfOk, OnOk, Result, Ok, Err}
use Rattle.std.specs.Int.{from_bool}
use Rattle.line_steps.specs.ResolvedLines.{ResolvedLine}
use Rattle.line_steps.specs.RunPosition.{RunPosition, arrived, crosses, passed}
use Rattle.own_model.specs.Listed.{Listed}
use Rattle.own_model.specs.World.{World}
use Rattle.run_lines.specs.Answered.{after_all}
use Rattle.run_lines.specs.Faults.{Fails}
use Rattle.run_devices.specs.Lines.{AreReadable}
use Rattle.run_lines.specs.LineRuns.{EndsFor, WritesOutput}
use Rattle.run_lines.specs.declared.line_run_fault.LineRunFault.{LineRunFault}
use Rattle.run_lines.specs.declared.line_run_fault.LineRunFault.TheVariants.{ReadFault, WriteFault, TooManyLines, NoMemory}
use Rattle.run_scenario.specs.Faults.{takes_memory}
use Rattle.run_scenario.specs.CallAnswers.{ReportsCalls}
use Rattle.run_scenario.specs.Judging.{Awaited, awaited_after, awaited_behind, errors_in, errors_of, has_error}
use Rattle.run_scenario.specs.RunCalls.{calls_answered, calls_of_steps, text_of_steps}
use Rattle.run_scenario.specs.LineSteps.{LineStep, calls_in, position_after, position_behind, steps_of}

-- a line handler is the one that began: its sink of errors, its run, the subject of its diagnostics, the text that it writes and what
-- it was made with
pub record Remains {N R S T : Type 0} (name now_name : N) (run now_run : R) (subject now_subject : S) (tells now_tells : T)
    (holds now_holds : List ℕ) : Type 0 where
  pub name_is : now_name ≡ name
  pub run_is : now_run ≡ run
  pub subject_is : now_subject ≡ subject
  pub tells_is : now_tells ≡ tells
  pub holds_is : now_holds ≡ holds

-- the errors of lines so far, and the log lines that are expected
pub record Tally : Type 0 where
  pub errors : ℕ
  pub awaited : Awaited

abbrev pub tally : ℕ → Awaited → Tally
tally errors awaited = record { errors = errors; awaited = awaited }

-- lines in their steps lead from one tally to another; the number of errors stops at `u64::MAX`
pub record Tallies (list : Listed) (only : Option (List ℕ)) (start : World) (old new : Tally) (steps : List LineStep) : Type 0 where
  pub awaits : new.awaited ≡ awaited_behind old.awaited steps
  pub counts : old.errors + errors_in list only start old.awaited steps < 2 ^ 64 →
      new.errors ≡ old.errors + errors_in list only start old.awaited steps

-- lines lead from one world to another, from a first position to this one, their calls were observed, and their errors counted and
-- reported
pub record LeadsSteps (list : Listed) (only : Option (List ℕ)) (start world : World) (first position : RunPosition) (tally now_tally : Tally)
    (reports : List (List ℕ) → Type 0) (seen : List (List ℕ) → Type 0) (lines : List (List ℕ)) : Type 0 where
  pub world_is : world ≡ after_all only start (calls_of_steps (steps_of only start first lines))
  pub stands : position ≡ position_behind only start first lines
  pub tallies : Tallies list only start tally now_tally (steps_of only start first lines)
  pub reported : reports lines
  pub sees : seen (calls_answered only (steps_of only start first lines))

-- if the host was out of memory, the last of these lines took some
abbrev pub TakesMemory : Bool → LineRunFault → List LineStep → Type 0
TakesMemory calls ReadFault steps = ⊤
TakesMemory calls WriteFault steps = ⊤
TakesMemory calls TooManyLines steps = ⊤
TakesMemory calls NoMemory steps =
    (front : List LineStep) × (last : LineStep) × (steps ≡ front ++ last ∷ []) × ((takes_memory calls last.resolved || last.crosses) ≡ true)

-- lines lead from one world to another, and the last of them had a fault
pub record StopsSteps (calls : Bool) (only : Option (List ℕ)) (start world : World) (first : RunPosition) (fault : LineRunFault)
    (lines : List (List ℕ)) : Type 0 where
  pub world_is : world ≡ after_all only start (calls_of_steps (steps_of only start first lines))
  pub takes : TakesMemory calls fault (steps_of only start first lines)

-- an error of a line is counted, unless there is a fault
abbrev pub counted : Result Bool LineRunFault → Result (Unit {0}) LineRunFault
counted (Ok complained) = Ok tt
counted (Err fault) = Err fault

-- an error is counted if there is one
abbrev pub CountsOne : Bool → ℕ → ℕ → Type 0
CountsOne error old new = old + from_bool error < 2 ^ 64 → new ≡ old + from_bool error

-- after a run without a fault its last error may fail to be written; a run with a fault stays as it is
abbrev pub ClosesAs : Option LineRunFault → Option LineRunFault → Bool → Bool → Type 0
ClosesAs None None failed now_failed = now_failed ≡ false
ClosesAs None (Some fault) failed now_failed = (fault ≡ WriteFault) × (now_failed ≡ true)
ClosesAs (Some fault) ended failed now_failed = (ended ≡ Some fault) × (now_failed ≡ failed)

-- ---- one line

-- a run at a line: its world and its position, the log lines that are expected, and the text that was written
pub record Point : Type 0 where
  pub world : World
  pub position : RunPosition
  pub awaited : Awaited
  pub written : Option (List ℕ)
  pub gathered : List ℕ

abbrev pub point : World → RunPosition → Awaited → Option (List ℕ) → List ℕ → Point
point world position awaited written gathered =
    record { world = world; position = position; awaited = awaited; written = written; gathered = gathered }

-- a line is run by whether it is meant, and by what it is: its call is answered and reported, the position moves on, and the line is checked, unless there is
-- a fault, which it may have
pub record RunsLine (list : Listed) (only : Option (List ℕ)) (tells : World → List (List ℕ) → ℕ → List ℕ → List ℕ) (calls : Bool)
    (seen now_seen : World → List (List ℕ) → Type 0) (meant : Bool) (resolved : ResolvedLine) (failed : Bool) (result : Result Bool LineRunFault)
    (old new : Point) : Type 0 where
  pub hears : ReportsCalls only tells seen now_seen old.position.number (calls_in resolved) old.world new.world result old.written old.gathered
      new.written new.gathered
  pub stands : OnOk result (new.position ≡ arrived (position_after only old.world (passed old.position) resolved))
  pub judged : IfOk result (λ complained. complained ≡ has_error list only old.world meant resolved old.awaited)
  pub expects : OnOk result (new.awaited ≡ awaited_after old.position.number resolved old.awaited)
  pub failing : Fails result failed (takes_memory calls resolved || crosses old.position)

-- ---- the whole run

-- the maximum number of lines of a scenario that are run
abbrev pub most_lines : ℕ
most_lines = 1000000

-- if the host was out of memory, the last line took some
abbrev pub TakesMemoryFor : Bool → Option LineRunFault → List LineStep → Type 0
TakesMemoryFor calls fault steps = IfSome fault (λ f. TakesMemory calls f steps)

-- the errors of a scenario's lines in their steps are counted, after so many others and with this expectation at first
abbrev pub CountsErrors : Listed → Option (List ℕ) → World → Tally → ℕ → List LineStep → Type 0
CountsErrors list only start tally errors steps =
    tally.errors + errors_of list only start tally.awaited steps < 2 ^ 64 → errors ≡ tally.errors + errors_of list only start tally.awaited steps

-- a scenario is run from its first position to its end or to a fault, after a text
pub record RunsAll (tells : List (List ℕ) → ℕ → List ℕ → List ℕ) (calls : Bool) (seen : List (List ℕ) → Type 0)
    (counts : List LineStep → Type 0) (reports : List (List ℕ) → Type 0) (only : Option (List ℕ)) (first : RunPosition) (fault : Option LineRunFault) (count : ℕ)
    (old new : World) (front : List ℕ) (input rest : Option (List ℕ)) (failed : Bool) (written now_written : Option (List ℕ))
    : Type 0 where
  pub given : List (List ℕ)
  pub readable : AreReadable given
  pub world : new ≡ after_all only old (calls_of_steps (steps_of only old first given))
  pub told : WritesOutput fault written now_written (front ++ text_of_steps tells only [] (steps_of only old first given))
  pub ends : EndsFor most_lines fault given input rest failed
  pub takes : TakesMemoryFor calls fault (steps_of only old first given)
  pub counted : IfNone fault (count ≡ length given)
  pub complained : IfNone fault (counts (steps_of only old first given))
  pub reported : IfNone fault (reports given)
  pub few : length given ≤ most_lines
  pub sees : IfNone fault (seen (calls_answered only (steps_of only old first given)))
