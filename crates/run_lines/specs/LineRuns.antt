-- The progress of a run of lines, and its end.
use Rattle.std.specs.Prelude.{◌≡◌, ◌⊎◌, ℕ, ◌<◌, ◌≤◌, Bool, true, false, List, [], ◌∷◌, ◌++◌, length, Option, Some, None, IfSome, IfNone, Result, Ok, Err}
use Rattle.std.specs.Io.KnownBytes.{Appends}
use Rattle.own_model.specs.Text.{lines_of}
use Rattle.run_devices.specs.RunOutput.{AppendsPart, Tells, OutputsPart, OutputsUnless}
use Rattle.run_devices.specs.Lines.{line_length, longest_read, to_come, AreReadable, HasRead, PassesLines, PassesSome}
use Rattle.run_lines.specs.Reach.{KeepsUp, ReadsBehind, WritesClose, reach}
use Rattle.run_lines.specs.Causes.{StopsFor}
use Rattle.run_lines.specs.declared.lines.Buffers.{Buffers}
use Rattle.run_lines.specs.declared.line_run_fault.LineRunFault.{LineRunFault}
use Rattle.run_lines.specs.declared.line_run_fault.LineRunFault.TheVariants.{ReadFault, WriteFault, TooManyLines, NoMemory}
use Rattle.run_lines.specs.declared.run_fault.RunFault.TheVariants.{ReadFault as Unread, WriteFault as Unwritten, TooManyLines as TooMany}

-- ---- one line

-- a line handler continues after these lines, or a fault stops it there
abbrev pub Continues : {T : Type 0} → (List (List ℕ) → Type 0) → (LineRunFault → List (List ℕ) → Type 0) → List (List ℕ) →
    Result T LineRunFault → Type 0
Continues leads stops lines (Ok done) = leads lines
Continues leads stops lines (Err fault) = stops fault lines

-- a line is run after others, unless a fault occurs: the output of all is that of the others, followed by that of this line
pub record HandlesLine {T : Type 0} (told : List (List ℕ) → List ℕ) (leads : List (List ℕ) → Type 0)
    (stops : LineRunFault → List (List ℕ) → Type 0) (earlier : List (List ℕ)) (line : List ℕ) (result : Result T LineRunFault)
    (written : Option (List ℕ)) (gathered : List ℕ) (now_written : Option (List ℕ)) (now_gathered : List ℕ) : Type 0 where
  pub piece : List ℕ
  pub more : told (earlier ++ line ∷ []) ≡ told earlier ++ piece
  pub tells : OutputsUnless result written gathered now_written now_gathered piece
  pub goes_on : Continues leads stops (earlier ++ line ∷ []) result

-- ---- from line to line

-- a run between two lines: the remaining bytes, and the output
pub record Point : Type 0 where
  pub ahead : List ℕ
  pub rest : Option (List ℕ)
  pub written : Option (List ℕ)
  pub gathered : List ℕ

-- the same, built from its parts
abbrev pub point : Buffers → Option (List ℕ) → Option (List ℕ) → Point
point buffers rest written = record {
  ahead = buffers.ahead;
  rest = rest;
  written = written;
  gathered = buffers.gathered;
}

-- the output before more is read is written
abbrev pub ReadsOn : Point → Point → Type 0
ReadsOn old new = ReadsBehind reach (to_come old.ahead old.rest) old.gathered old.written old.rest new.written new.rest

-- a line is run after others; if the remaining bytes are known, it is the first line of them
pub record HandlesOn (told : List (List ℕ) → List ℕ) (earlier : List (List ℕ)) (line : List ℕ) (old new : Point) : Type 0 where
  pub piece : List ℕ
  pub more : told (earlier ++ line ∷ []) ≡ told earlier ++ piece
  pub tells : Tells old.written old.gathered new.written new.gathered piece
  pub passes : IfSome (to_come old.ahead old.rest) (λ text.
      PassesLines text (to_come new.ahead new.rest) (line ∷ []))
  pub short : length line ≤ longest_read

-- no line is left, and all output is written
pub record Ended (old new : Point) : Type 0 where
  pub tells : Tells old.written old.gathered new.written [] []
  pub none : IfSome (to_come old.ahead old.rest) (λ text. text ≡ [])

-- all output is written, unless a write failed or the host was out of memory
abbrev pub OutputsTo : LineRunFault → Option (List ℕ) → List ℕ → Option (List ℕ) → List ℕ → Type 0
OutputsTo ReadFault written gathered now_written told = Tells written gathered now_written [] told
OutputsTo WriteFault written gathered now_written told = OutputsPart written gathered now_written told
OutputsTo TooManyLines written gathered now_written told = Tells written gathered now_written [] told
OutputsTo NoMemory written gathered now_written told = OutputsPart written gathered now_written told

-- these lines of a text were run, and were read whole
abbrev pub AreWhole : List (List ℕ) → List ℕ → Option (List ℕ) → Type 0
AreWhole lines text rest = (left : List (List ℕ)) × (lines_of text ≡ lines ++ left) × HasRead (length lines) text rest

-- the cause for which no more lines of a text are run than these
abbrev pub BreaksFor : LineRunFault → List (List ℕ) → List ℕ → Option (List ℕ) → Bool → Type 0
BreaksFor ReadFault lines text rest failed =
    (lines ≡ []) × (((failed ≡ true) × ((n : ℕ) × PassesSome text rest n)) ⊎ (longest_read < line_length text))
BreaksFor WriteFault lines text rest failed = AreWhole lines text rest
BreaksFor TooManyLines lines text rest failed = ⊥
BreaksFor NoMemory lines text rest failed = AreWhole lines text rest

-- the cause that stops a run after these lines: its line handler, at the last of them; or otherwise a device or a bound,
-- after a line handler that could have continued
abbrev pub StopsAs : (List (List ℕ) → Type 0) → (LineRunFault → List (List ℕ) → Type 0) → LineRunFault → List (List ℕ) → Type 0
StopsAs leads stops ReadFault lines = leads lines
StopsAs leads stops WriteFault lines = leads lines ⊎ stops WriteFault lines
StopsAs leads stops TooManyLines lines = leads lines
StopsAs leads stops NoMemory lines = stops NoMemory lines

-- a fault occurs after others, before a line is run or in its run
pub record Breaks (told : List (List ℕ) → List ℕ) (leads : List (List ℕ) → Type 0)
    (stops : LineRunFault → List (List ℕ) → Type 0) (fault : LineRunFault) (earlier : List (List ℕ)) (failed : Bool)
    (old new : Point) : Type 0 where
  pub given : List (List ℕ)
  pub one : length given ≤ 1
  pub readable : AreReadable given
  pub piece : List ℕ
  pub more : told (earlier ++ given) ≡ told earlier ++ piece
  pub tells : OutputsTo fault old.written old.gathered new.written piece
  pub cause : IfSome (to_come old.ahead old.rest) (λ text. BreaksFor fault given text new.rest failed)
  pub stops_as : StopsAs leads stops fault (earlier ++ given)

-- the next line is run after others, unless there is none or a fault occurs
abbrev pub HandlesNext : (List (List ℕ) → List ℕ) → (List (List ℕ) → Type 0) → (LineRunFault → List (List ℕ) → Type 0) →
    List (List ℕ) → Result Bool LineRunFault → Bool → Point → Point → Type 0
HandlesNext told leads stops earlier (Ok true) failed old new =
    (line : List ℕ) × HandlesOn told earlier line old new × leads (earlier ++ line ∷ [])
HandlesNext told leads stops earlier (Ok false) failed old new = Ended old new × leads earlier
HandlesNext told leads stops earlier (Err fault) failed old new =
    Breaks told leads stops fault earlier failed old new

-- there may be more lines, unless a fault occurred
abbrev pub more_unless_stopped : {T : Type 0} → Result T LineRunFault → Result Bool LineRunFault
more_unless_stopped (Ok done) = Ok true
more_unless_stopped (Err fault) = Err fault

-- ---- the whole run

-- the output that is written: all of it, or some if a write failed or the host was out of memory
abbrev pub WritesOutput : Option LineRunFault → Option (List ℕ) → Option (List ℕ) → List ℕ → Type 0
WritesOutput None old new told = Appends old new told
WritesOutput (Some ReadFault) old new told = Appends old new told
WritesOutput (Some WriteFault) old new told = AppendsPart old new told
WritesOutput (Some TooManyLines) old new told = Appends old new told
WritesOutput (Some NoMemory) old new told = AppendsPart old new told

-- the cause for which these lines of a scenario were run and the rest was not, as of the engine's run; out of memory is like
-- a failed write, at a line that is allowed and was read whole
abbrev pub StopsAt : ℕ → LineRunFault → List (List ℕ) → List (List ℕ) → List ℕ → Option (List ℕ) → Bool → Type 0
StopsAt max_lines ReadFault lines left text rest failed = StopsFor Unread lines left max_lines text rest failed
StopsAt max_lines WriteFault lines left text rest failed = StopsFor Unwritten lines left max_lines text rest failed
StopsAt max_lines TooManyLines lines left text rest failed = StopsFor TooMany lines left max_lines text rest failed
StopsAt max_lines NoMemory lines left text rest failed = StopsFor Unwritten lines left max_lines text rest failed

-- no lines are left, unless a fault occurred
abbrev pub LeavesFor : ℕ → Option LineRunFault → List (List ℕ) → List (List ℕ) → List ℕ → Option (List ℕ) → Bool → Type 0
LeavesFor max_lines None lines left text rest failed = (left ≡ []) × HasRead (length lines) text rest
LeavesFor max_lines (Some fault) lines left text rest failed = StopsAt max_lines fault lines left text rest failed

-- the first lines of a scenario were run, if it is known, and the others were not for a cause
abbrev pub EndsFor : ℕ → Option LineRunFault → List (List ℕ) → Option (List ℕ) → Option (List ℕ) → Bool → Type 0
EndsFor max_lines fault lines input rest failed = IfSome input (λ text. (left : List (List ℕ))
    × (lines_of text ≡ lines ++ left) × LeavesFor max_lines fault lines left text rest failed)

-- a line handler continued after these lines to their end, or was stopped there
abbrev pub EndsAs : (List (List ℕ) → Type 0) → (LineRunFault → List (List ℕ) → Type 0) → Option LineRunFault → List (List ℕ) → Type 0
EndsAs leads stops None lines = leads lines
EndsAs leads stops (Some fault) lines = StopsAs leads stops fault lines

-- a scenario is run from its start to its end or to a fault, after bytes that were gathered before
pub record PlaysAll (told : List (List ℕ) → List ℕ) (leads : List (List ℕ) → Type 0)
    (stops : LineRunFault → List (List ℕ) → Type 0) (fault : Option LineRunFault) (count max_lines : ℕ) (front : List ℕ)
    (input rest : Option (List ℕ)) (failed : Bool) (written now_written : Option (List ℕ)) : Type 0 where
  pub given : List (List ℕ)
  pub readable : AreReadable given
  pub ends_as : EndsAs leads stops fault given
  pub writes : WritesOutput fault written now_written (front ++ told given)
  pub ends : EndsFor max_lines fault given input rest failed
  pub counted : IfNone fault (count ≡ length given)
  pub few : length given ≤ max_lines
  pub keeps_up : front ≡ [] → KeepsUp told given input rest written now_written
  pub close : WritesClose (λ lines. front ++ told lines) given written now_written
