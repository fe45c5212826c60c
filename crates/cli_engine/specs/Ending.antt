-- How the program ends.
use Rattle.std.specs.Prelude.{◌≡◌, ℕ, Bool, true, false, List, take, Option, None, IfSome, Result, Ok, Err}
use Rattle.clap.specs.Words.{kind_of}
use Rattle.clap.specs.declared.error.kind.ErrorKind.{ErrorKind}
use Rattle.clap.specs.declared.error.kind.ErrorKind.TheVariants.{DisplayHelp, DisplayVersion}
use Rattle.cli_engine.specs.Program.{FailsFor, IsDone, status_of}
use Rattle.cli_engine.specs.declared.program.TaskFailure.{TaskFailure}
use Rattle.cli_engine.specs.declared.program.Task.{Task}
use Rattle.run_engine.specs.declared.engine.Summary.{Summary}
use Rattle.cli_engine.specs.declared.host.ProgramEnd.{ProgramEnd}
use Rattle.cli_engine.specs.declared.host.ProgramEnd.TheVariants.{Refused, NoConfig, Ended}

-- the status if the arguments of the command line result in no task
abbrev pub arguments_status : ErrorKind → ℕ
arguments_status DisplayHelp = 0
arguments_status DisplayVersion = 0
arguments_status kind = 2

-- the exit status of the program
abbrev pub program_status : ProgramEnd → ℕ
program_status (Refused error) = arguments_status (kind_of error)
program_status (NoConfig fault) = 2
program_status (Ended ended) = status_of ended

-- the result of a task on the machine of a text, by the bytes that a reader gave; what was written is not stated
abbrev pub HasResult : Result Summary TaskFailure → Task → List ℕ → ℕ → Option (List ℕ) → Type 0
HasResult (Ok summary) asked text max_lines input = IsDone asked text input summary.lines None None
HasResult (Err failure) asked text max_lines input =
    (rest : Option (List ℕ)) × ((failed : Bool) × FailsFor failure asked text max_lines input rest failed None None)

-- the text of a start list: that of a file, as far as it is read, if a path is given, and else the built-in one
abbrev pub IsListText : {F : Type 0} → (F → Option (List ℕ)) → List ℕ → Bool → List ℕ → Type 0
IsListText remaining built_in false text = text ≡ built_in
IsListText {F = F} remaining built_in true text = (file : F) × IfSome (remaining file) (λ bytes. text ≡ take 65537 bytes)

-- the program did its task on the machine of such a text, or didn't read the file of the path that is given
abbrev pub EndsOn : (List ℕ → Type 0) → Bool → (Result Summary TaskFailure → List ℕ → Type 0) → ProgramEnd → Type 0
EndsOn is_text given has_result (Refused error) = ⊥
EndsOn is_text given has_result (NoConfig fault) = given ≡ true
EndsOn is_text given has_result (Ended ended) = (text : List ℕ) × is_text text × has_result ended text
