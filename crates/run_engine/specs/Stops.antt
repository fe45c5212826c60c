-- What a run that stopped leaves.
use Rattle.std.specs.Prelude.{◌≡◌, ℕ, Bool, List, [], ◌++◌, Option, Some}
use Rattle.std.specs.Io.KnownBytes.{Appends}
use Rattle.own_model.specs.LinesOfName.{said_by}
use Rattle.own_model.specs.Text.{lines_of}
use Rattle.own_model.specs.Transcript.{transcript_after, calls_of, state_at, state_after}
use Rattle.own_model.specs.World.{World, world_running}
use Rattle.run_devices.specs.Lines.{AreReadable}
use Rattle.run_lines.specs.Causes.{StopsFor}
use Rattle.run_devices.specs.RunOutput.{AppendsPart}
use Rattle.run_lines.specs.Reach.{KeepsUp, WritesClose}
use Rattle.run_lines.specs.declared.run_fault.RunFault.{RunFault}
use Rattle.run_lines.specs.declared.run_fault.RunFault.TheVariants.{ReadFault, WriteFault, TooManyLines}

-- the output that is written: all of it, unless a write failed
abbrev pub IsWritten : RunFault → Option (List ℕ) → Option (List ℕ) → List ℕ → Type 0
IsWritten ReadFault old new told = Appends old new told
IsWritten WriteFault old new told = AppendsPart old new told
IsWritten TooManyLines old new told = Appends old new told

-- a run stopped at a fault: the first lines of its input were answered, each by its caller's own run; or a name's alone
-- were, and the others skipped
pub record Stops (only : Option (List ℕ)) (fault : RunFault) (max_lines : ℕ) (old new : World) (input : List ℕ)
    (rest : Option (List ℕ)) (failed : Bool) (written now_written : Option (List ℕ)) : Type 0 where
  pub answered : List (List ℕ)
  pub left : List (List ℕ)
  pub lines : lines_of input ≡ answered ++ left
  pub cause : StopsFor fault answered left max_lines input rest failed
  pub readable : AreReadable answered
  pub keeps_up :
      KeepsUp (λ lines. transcript_after old.entries old.states [] (said_by only lines)) answered
      (Some input) rest written now_written
  pub close :
      WritesClose (λ lines. transcript_after old.entries old.states [] (said_by only lines)) answered written now_written
  pub told : IsWritten fault written now_written (transcript_after old.entries old.states [] (said_by only answered))
  pub states : (component : ℕ) →
      state_at new.states component
      ≡ state_after old.entries old.states (calls_of old.entries (said_by only answered)) component
  pub world : new ≡ world_running old (said_by only answered)
