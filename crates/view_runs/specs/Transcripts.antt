-- What `run` writes: the transcript, with numbers of lines or without, and the account list after it.
use Rattle.std.specs.Prelude.{◌≡◌, ◌⊎◌, ℕ, Bool, true, false, List, [], ◌++◌, length, codes, decimal, Option, Some, None, IfSome, IfNone, Result, Ok, Err}
use Rattle.std.specs.Io.KnownBytes.{Appends}
use Rattle.std.specs.Option.{option_copied}
use Rattle.own_model.specs.Listed.{Listed}
use Rattle.own_model.specs.Text.{lines_of}
use Rattle.own_model.specs.Transcript.{transcript_after}
use Rattle.own_model.specs.World.{World}
use Rattle.run_lines.specs.Answered.{after_all}
use Rattle.run_devices.specs.Lines.{AreReadable}
use Rattle.run_lines.specs.Machine.{accounts_for, world_of}
use Rattle.run_devices.specs.RunOutput.{AppendsPart}
use Rattle.run_scenario.specs.RunCalls.{calls_of_steps, engine_text, text_of_steps}
use Rattle.run_scenario.specs.Writes.{transcript_of}
use Rattle.run_lines.specs.LineRuns.{EndsFor}
use Rattle.run_scenario.specs.LineSteps.{LineStep}
use Rattle.run_lines.specs.declared.line_run_fault.LineRunFault.{LineRunFault}
use Rattle.run_lines.specs.declared.line_run_fault.LineRunFault.TheVariants.{ReadFault, WriteFault, TooManyLines, NoMemory}
use Rattle.line_steps.specs.RunPosition.{RunPosition}
use Rattle.view_runs.specs.declared.transcript.TranscriptOptions.{TranscriptOptions}

-- the same with the line's number before the text for each line of the scenario, if that is asked for
abbrev pub number_before : Bool → ℕ → List ℕ
number_before true number = decimal number ++ codes ": "
number_before false number = []

abbrev pub text_of_run_call : Bool → World → List (List ℕ) → ℕ → List ℕ → List ℕ
text_of_run_call numbers start earlier number call = number_before numbers number ++ engine_text start earlier number call

abbrev pub shown_of : Bool → Option (List ℕ) → World → List LineStep → List ℕ
shown_of true only world steps = text_of_steps (text_of_run_call true world) only [] steps
shown_of false only world steps = transcript_of only world steps

abbrev pub text_of_run : TranscriptOptions → Listed → List LineStep → List ℕ
text_of_run showing listed steps = shown_of showing.numbers (option_copied showing.only) (world_of listed) steps

-- the account list after them, if it is asked for
abbrev pub list_behind : Bool → Option (List ℕ) → Listed → World → List LineStep → List ℕ
list_behind accounts only listed world steps = accounts_for accounts listed (after_all only world (calls_of_steps steps))

abbrev pub run_behind : TranscriptOptions → Listed → List LineStep → List ℕ
run_behind showing listed steps = list_behind showing.accounts (option_copied showing.only) listed (world_of listed) steps
