-- What a run promises, of all lines or of a name's alone.
use Rattle.std.specs.Prelude.{◌≡◌, ℕ, ◌≤◌, Bool, false, List, [], length, if◌then◌else◌, Option, Some, None, IfSome, IfOk, IfErr, OnOk, Result, Ok, Err}
use Rattle.std.specs.Io.KnownBytes.{Appends}
use Rattle.own_model.specs.LinesOfName.{said_by}
use Rattle.own_model.specs.StartList.{StartList}
use Rattle.own_model.specs.Text.{lines_of}
use Rattle.own_model.specs.Transcript.{transcript_after, calls_of, state_at, state_after}
use Rattle.own_model.specs.World.{World, IsBalanced, IsBalancedFor, world_running}
use Rattle.run_lines.specs.Faults.{play_fault}
use Rattle.run_devices.specs.Lines.{AreReadable}
use Rattle.run_engine.specs.Stops.{Stops}
use Rattle.run_lines.specs.Causes.{is_write_fault, HasCause}
use Rattle.run_lines.specs.declared.line_run_fault.LineRunFault.{LineRunFault}
use Rattle.run_lines.specs.declared.run_fault.RunFault.{RunFault}
use Rattle.run_lines.specs.declared.run_fault.RunFault.TheVariants.{ReadFault, WriteFault}
use Rattle.run_engine.specs.declared.engine.Summary.{Summary}

-- a run came to the end of its input
pub record Completes (only : Option (List ℕ)) (lines : ℕ) (old new : World) (input : List ℕ)
    (written now_written : Option (List ℕ)) : Type 0 where
  -- each line is counted, also one that is skipped
  pub counted : lines ≡ length (lines_of input)
  pub readable : AreReadable (lines_of input)
  -- what is written is the transcript of the lines that are run
  pub transcript : Appends written now_written
      (transcript_after old.entries old.states [] (said_by only (lines_of input)))
  -- each component's own state is that of its own run on its own part of them
  pub states : (component : ℕ) →
      state_at new.states component
      ≡ state_after old.entries old.states
      (calls_of old.entries (said_by only (lines_of input))) component
  pub world : new ≡ world_running old (said_by only (lines_of input))

-- what a run keeps, however it ends
pub record KeepsWorld (old new : World) : Type 0 where
  pub entries : new.entries ≡ old.entries
  pub count : length new.states ≡ length old.states
  pub balance : (pages caps : ℕ) → IsBalanced pages caps old → IsBalanced pages caps new
  pub shares : (machine : StartList) → IsBalancedFor machine old → IsBalancedFor machine new

-- the fault of devices that had failed before: the writer's first
abbrev pub FaultBefore : Result Summary RunFault → Bool → Bool → Type 0
FaultBefore result read_failed write_failed =
    result ≡ Err (if write_failed then WriteFault else ReadFault)

-- a run ends as its run of this number of lines with a line handler does
abbrev pub EndsWith : Option LineRunFault → ℕ → Result Summary RunFault → Type 0
EndsWith fault lines (Ok summary) = (fault ≡ None) × (summary.lines ≡ lines)
EndsWith fault lines (Err stopped) = fault ≡ Some (play_fault stopped)

-- all lines of an input, or a name's alone, are run to its end or to a fault
pub record Runs (only : Option (List ℕ)) (result : Result Summary RunFault) (max_lines : ℕ) (old new : World)
    (input rest : Option (List ℕ)) (read_failed write_failed : Bool) (written now_written : Option (List ℕ)) : Type 0 where
  pub few : IfOk result (λ summary. summary.lines ≤ max_lines)
  pub done : IfOk result (λ summary. IfSome input (λ text.
      Completes only summary.lines old new text written now_written))
  pub keeps : KeepsWorld old new
  pub writing : write_failed ≡ is_write_fault result
  pub reading : OnOk result (read_failed ≡ false)
  pub stops : IfErr result (λ fault. IfSome input (λ text.
      Stops only fault max_lines old new text rest read_failed written now_written))
  pub ok : IfErr result (λ fault. IfSome input (λ text. HasCause text max_lines read_failed write_failed))
