-- What the program does, from the text of its start list to the end of its task.
use Rattle.std.specs.Prelude.{◌≡◌, ◌≢◌, ℕ, ◌*◌, ◌≤◌, ◌⊎◌, ◌++◌, ◌∷◌, Bool, true, false, List, [], codes, length, Option, Some, IfSome, Result, Ok, Err, ⊤}
use Rattle.std.specs.Io.KnownBytes.{Appends}
use Rattle.own_model.specs.AccountList.{account_list_text, total_line}
use Rattle.run_lines.specs.Machine.{IsMachine, accounts_for, boot_fault, world_of}
use Rattle.own_model.specs.Listed.{Listed, start_list_of}
use Rattle.own_model.specs.StartList.{StartList}
use Rattle.own_model.specs.Text.{lines_of}
use Rattle.own_model.specs.Transcript.{transcript_after}
use Rattle.own_model.specs.LinesOfName.{said_by}
use Rattle.std.specs.Option.{option_copied}
use Rattle.own_model.specs.World.{World, start_world, world_running, all_ram, all_caps}
use Rattle.list_parser.specs.declared.fault.BootFault.TheVariants.{NoMemory}
use Rattle.run_devices.specs.Lines.{AreReadable}
use Rattle.run_engine.specs.Stops.{Stops}
use Rattle.run_devices.specs.RunOutput.{AppendsPart}
use Rattle.cli_engine.specs.declared.program.TaskFailure.{TaskFailure}
use Rattle.cli_engine.specs.declared.program.TaskFailure.TheVariants as failure
use Rattle.cli_engine.specs.declared.program.Task.{Task}
use Rattle.cli_engine.specs.declared.program.Task.TheVariants as task
use Rattle.run_lines.specs.declared.run_fault.RunFault.{RunFault}
use Rattle.run_lines.specs.declared.run_fault.RunFault.TheVariants.{WriteFault}
use Rattle.run_engine.specs.declared.engine.Summary.{Summary}

-- the task that the options of the command line ask for
abbrev pub AsksFor : Bool → Bool → Option (List ℕ) → Task → Type 0
AsksFor check accounts only task.Check = check ≡ true
AsksFor check accounts only (task.Run listed name) =
    (check ≡ false) × (listed ≡ accounts) × (option_copied name ≡ only)

-- what a task reads: a check reads nothing
abbrev pub read_for : Task → Option (List ℕ) → Option (List ℕ)
read_for task.Check input = Some []
read_for (task.Run accounts only) input = input

-- the output of a check of a machine
abbrev pub ok_line : List ℕ
ok_line = codes "ok" ++ 10 ∷ []

-- the lines of an input that are run: all, or a name's alone
abbrev pub lines_run : Option (List ℕ) → List ℕ → List (List ℕ)
lines_run only input = said_by only (lines_of input)

-- the output of a world of a list: the transcript of the lines that are run, and the account list of the last states
abbrev pub scenario_text : Bool → Option (List ℕ) → Listed → World → List ℕ → List ℕ
scenario_text accounts only list world input =
    transcript_after world.entries world.states [] (lines_run only input)
    ++ accounts_for accounts list (world_running world (lines_run only input))

-- an input was read to its end, and this text is output
pub record IsAnswered (text input : List ℕ) (lines : ℕ) (written now_written : Option (List ℕ)) : Type 0 where
  pub counted : lines ≡ length (lines_of input)
  pub readable : AreReadable (lines_of input)
  pub tells : Appends written now_written text

-- an input has no more lines than are allowed, and none that is too long to be read
pub record IsWithinBounds (max_lines : ℕ) (input : List ℕ) : Type 0 where
  pub few : length (lines_of input) ≤ max_lines
  pub readable : AreReadable (lines_of input)

-- if a scenario was answered, it is within these bounds
abbrev pub IsBoundedFor : Task → ℕ → List ℕ → Type 0
IsBoundedFor task.Check max_lines input = ⊤
IsBoundedFor (task.Run accounts only) max_lines input = IsWithinBounds max_lines input

-- what a task writes
abbrev pub written_for : Task → Listed → List ℕ → List ℕ
written_for task.Check list input = ok_line
written_for (task.Run accounts only) list input =
    scenario_text accounts (option_copied only) list (world_of list) input

-- the sums of an account list after any lines are the machine's
abbrev pub TotalsAre : StartList → List (List ℕ) → Type 0
TotalsAre list lines =
    total_line (all_ram (world_running (start_world list) lines)) (all_caps (world_running (start_world list) lines))
    ≡ total_line (list.pages * 4096) list.caps

-- a task was done to its end, on the machine of a text
pub record IsDone (asked : Task) (text : List ℕ) (input : Option (List ℕ)) (lines : ℕ) (written now_written : Option (List ℕ)) : Type 0 where
  pub list : Listed
  pub machine : IsMachine text list
  pub done : IfSome (read_for asked input) (λ bytes.
      IsAnswered (written_for asked list bytes) bytes lines written now_written)
  pub totals : (lines : List (List ℕ)) → TotalsAre (start_list_of list) lines

-- a write of the account list failed, after all lines were answered and output
pub record StopsList (accounts : Bool) (only : Option (List ℕ)) (fault : RunFault) (max_lines : ℕ) (list : Listed) (world : World) (input : List ℕ)
    (written now_written : Option (List ℕ)) : Type 0 where
  pub asked : accounts ≡ true
  pub fault_is : fault ≡ WriteFault
  pub few : length (lines_of input) ≤ max_lines
  pub readable : AreReadable (lines_of input)
  pub part : List ℕ
  pub left : List ℕ
  pub parts : account_list_text list (world_running world (lines_run only input)) ≡ part ++ left
  pub grows : Appends written now_written
      (transcript_after world.entries world.states [] (lines_run only input) ++ part)

-- a scenario was stopped: in its run, and then no account list is output, or in the account list
abbrev pub StopsScenario : Bool → Option (List ℕ) → RunFault → ℕ → Listed → World →
    List ℕ → Option (List ℕ) → Bool → Option (List ℕ) → Option (List ℕ) → Type 0
StopsScenario accounts only fault max_lines list world input rest failed written now_written =
    ((new : World) × Stops only fault max_lines world new input rest failed written now_written)
    ⊎ StopsList accounts only fault max_lines list world input written now_written

-- a task that had begun was stopped by a fault: the run from the machine's start, or the one write of a check
abbrev pub StopsTask : Task → RunFault → ℕ → Listed →
    List ℕ → Option (List ℕ) → Bool → Option (List ℕ) → Option (List ℕ) → Type 0
StopsTask task.Check fault max_lines list input rest failed written now_written =
    (fault ≡ WriteFault) × AppendsPart written now_written ok_line
StopsTask (task.Run accounts only) fault max_lines list input rest failed written now_written =
    StopsScenario accounts (option_copied only) fault max_lines list (world_of list) input rest failed written now_written

-- a task failed: the text boots no machine, or the task was stopped on its machine
abbrev pub FailsFor : TaskFailure → Task → List ℕ → ℕ →
    Option (List ℕ) → Option (List ℕ) → Bool → Option (List ℕ) → Option (List ℕ) → Type 0
FailsFor (failure.Boot fault) asked text max_lines input rest failed written now_written =
    fault ≢ NoMemory → boot_fault text ≡ Some fault
FailsFor (failure.Run fault) asked text max_lines input rest failed written now_written =
    (list : Listed) × IsMachine text list
    × IfSome (read_for asked input) (λ bytes. StopsTask asked fault max_lines list bytes rest failed written now_written)

-- the same of bytes, for which no read fails
abbrev pub FailsIn : TaskFailure → Task → List ℕ → ℕ → List ℕ → List ℕ → Type 0
FailsIn (failure.Boot fault) asked text max_lines input written =
    (written ≡ []) × (fault ≢ NoMemory → boot_fault text ≡ Some fault)
FailsIn (failure.Run fault) asked text max_lines input written =
    (list : Listed) × IsMachine text list
    × ((rest : Option (List ℕ)) × StopsTask asked fault max_lines list input rest false (Some []) (Some written))

-- the exit status
abbrev pub status_of : Result Summary TaskFailure → ℕ
status_of (Ok summary) = 0
status_of (Err (failure.Run fault)) = 1
status_of (Err (failure.Boot fault)) = 2
