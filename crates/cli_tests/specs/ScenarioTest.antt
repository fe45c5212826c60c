-- The result of a scenario's test.
use Rattle.std.specs.Prelude.{◌≡◌, ℕ, ◌==◌, ◌&&◌, ◌⊎◌, Bool, false, true, codes, not, nat_eq, List, [], ◌∷◌, length, MatchResult, IfErr, IfNone, IfOk, IfSome, Option, Some, None, Result, Ok, Err}
use Rattle.std.specs.List.{list_any, slice_split, starts_with}
use Rattle.own_model.specs.Listed.{Listed, start_list_of}
use Rattle.own_model.specs.StartList.{Boots}
use Rattle.line_friendly.specs.Friendly.{trimmed_line}
use Rattle.line_names.specs.RoundMarks.{RoundMark}
use Rattle.line_rounds.specs.Unfolding.{UnfoldedText}
use Rattle.line_steps.specs.RunPosition.{RunPosition, first_position}
use Rattle.list_parser.specs.Quota.{quota_fault}
use Rattle.list_parser.specs.StartText.{list_in}
use Rattle.list_parser.specs.declared.fault.BootFault.{BootFault}
use Rattle.run_devices.specs.Lines.{AreReadable}
use Rattle.run_lines.specs.Machine.{world_of}
use Rattle.run_lines.specs.declared.line_run_fault.LineRunFault.{LineRunFault}
use Rattle.run_lines.specs.declared.line_run_fault.LineRunFault.TheVariants.{ReadFault, WriteFault, TooManyLines, NoMemory}
use Rattle.run_scenario.specs.Judging.{errors_of, nothing_awaited}
use Rattle.run_scenario.specs.ScenarioEnd.{status_of}
use Rattle.run_scenario.specs.Writes.{AreAll, steps_on}
use Rattle.run_scenario.specs.declared.scenario_end.ScenarioEnd.{ScenarioEnd}
use Rattle.cli_base.specs.Files.{IsTextAt, IsTooLong, IsUnknown}
use Rattle.cli_base.specs.Given.{names_of}
use Rattle.cli_base.specs.ListFailures.{boot_lacks_memory, lacks_memory}
use Rattle.cli_base.specs.MachineChoice.{list_beside}
use Rattle.cli_base.specs.MachineTexts.{IsMachineOf, IsTextFor, LacksList}
use Rattle.cli_base.specs.Texts.{bytes_of}
use Rattle.cli_base.specs.Unfolding.{rounds_of}
use Rattle.cli_base.specs.declared.list_file.StartListFailure.{StartListFailure}
use Rattle.cli_base.specs.declared.machine.Machine.{Machine}
use Rattle.cli_base.specs.declared.settings.Settings.{Settings}

-- ---- a run

-- a scenario is answered as it expects exactly if its run has the status 0
abbrev pub is_answered : Result ScenarioEnd BootFault → Bool
is_answered ended = status_of ended == 0

-- the host is out of memory for a run: its machine, its lines or its diagnostics, which are written to memory
abbrev pub fault_lacks_memory : Option LineRunFault → Bool
fault_lacks_memory None = false
fault_lacks_memory (Some ReadFault) = false
fault_lacks_memory (Some WriteFault) = true
fault_lacks_memory (Some TooManyLines) = false
fault_lacks_memory (Some NoMemory) = true

abbrev pub run_lacks_memory : Result ScenarioEnd BootFault → Bool
run_lacks_memory (Ok ending) = fault_lacks_memory ending.fault
run_lacks_memory (Err fault) = boot_lacks_memory fault

-- lines were run on the machine of a list, from this position on. Without a fault they are all lines of the text, if that is known,
-- they are counted, and so are their errors
pub record IsRunOf (list : Listed) (first : RunPosition) (text : Option (List ℕ)) (ending : ScenarioEnd) : Type 0 where
  pub boots : Boots (start_list_of list)
  pub given : List (List ℕ)
  pub readable : AreReadable given
  pub all : IfNone ending.fault (IfSome text (AreAll given))
  pub counted : IfNone ending.fault (ending.lines ≡ length given)
  pub complained : IfNone ending.fault
      (ending.complaints ≡ errors_of list None (world_of list) nothing_awaited (steps_on None first list given))

-- the same, unless the machine doesn't boot
abbrev pub EndsRun : Listed → RunPosition → Option (List ℕ) → Result ScenarioEnd BootFault → Type 0
EndsRun list first text (Ok ending) = IsRunOf list first text ending
EndsRun list first text (Err fault) = quota_fault list ≡ Some fault

-- the position before the first line of a scenario with these round marks
abbrev pub start_by : Settings → List RoundMark → RunPosition
start_by settings marks = first_position (names_of settings) marks

-- a test passes exactly if the run of a text with these round marks has the status 0
abbrev pub PassesBy : Settings → Listed → List RoundMark → Option (List ℕ) → Bool → Type 0
PassesBy settings list marks text passed =
    (ended : Result ScenarioEnd BootFault) × EndsRun list (start_by settings marks) text ended
    × (run_lacks_memory ended ≡ false) × (passed ≡ is_answered ended)

-- ---- a text

-- a line is a call: neither blank nor a comment, a directive or an expected log line
abbrev pub is_call_text : List ℕ → Bool
is_call_text [] = false
is_call_text (byte ∷ rest) =
    not (byte == 35) && (not (byte == 64) && (not (byte == 13) && not (starts_with nat_eq (byte ∷ rest) (codes "=> "))))

abbrev pub is_call : List ℕ → Bool
is_call line = is_call_text (trimmed_line line)

-- a line of a text is one
abbrev pub has_call : List ℕ → Bool
has_call text = list_any is_call (slice_split (λ b. b == 10) text)

-- the lines that are run are the unfolded ones, one of which is a call
abbrev pub IsUnfoldedResult : Settings → Listed → UnfoldedText → Bool → Type 0
IsUnfoldedResult settings list lines passed =
    (answered : Bool) × PassesBy settings list lines.marks (Some lines.text) answered × (passed ≡ (answered && has_call lines.text))

-- rounds that don't unfold fail the test
abbrev pub IsTextResult : Settings → Listed → List ℕ → Bool → Type 0
IsTextResult settings list text passed =
    MatchResult (rounds_of settings text) (λ lines. IsUnfoldedResult settings list lines passed) (λ fault. passed ≡ false)

-- ---- a file

-- a scenario that isn't read whole is run line by line; one that isn't opened fails
abbrev pub IsUnreadResult : (List ℕ → Option (List ℕ)) → Settings → Listed → List ℕ → Bool → Type 0
IsUnreadResult texts settings list scenario passed =
    PassesBy settings list [] (texts scenario) passed ⊎ (IsUnknown texts scenario × (passed ≡ false))

-- a scenario is tested on a list by the text of its file
abbrev pub IsFileResult : (List ℕ → Option (List ℕ)) → Settings → Listed → List ℕ → Bool → Type 0
IsFileResult texts settings list scenario passed =
    ((text : List ℕ) × IsTextAt texts scenario text × IsTextResult settings list text passed)
    ⊎ (IsTooLong texts scenario × IsUnreadResult texts settings list scenario passed)

-- ---- the machine

-- the list next to a scenario, or another one if no list is known to be there
abbrev pub IsListFor : (List ℕ → Option (List ℕ)) → Option (List ℕ) → List ℕ → Option (List ℕ) → Type 0
IsListFor texts other scenario path =
    (path ≡ Some (list_beside scenario)) ⊎ ((path ≡ other) × IsUnknown texts (list_beside scenario))

-- a list is that of the file at a path, with the values of names; without a path it is the built-in one
abbrev pub IsListAt : (List ℕ → Option (List ℕ)) → Settings → Option (List ℕ) → Listed → Type 0
IsListAt texts settings path list = (text : List ℕ) × IsTextFor texts settings path text × (list_in text ≡ Ok list)

-- the test of a scenario on the list at a path; without a list there it fails
abbrev pub IsResultOn : (List ℕ → Option (List ℕ)) → Settings → Option (List ℕ) → List ℕ → Bool → Type 0
IsResultOn texts settings path scenario passed =
    ((passed ≡ false) × LacksList texts settings path)
    ⊎ ((list : Listed) × IsListAt texts settings path list × IsFileResult texts settings list scenario passed)

-- a scenario is tested on the list next to it, or else on another one
abbrev pub IsScenarioResult : (List ℕ → Option (List ℕ)) → Settings → Option (List ℕ) → List ℕ → Bool → Type 0
IsScenarioResult texts settings other scenario passed =
    (path : Option (List ℕ)) × IsListFor texts other scenario path × IsResultOn texts settings path scenario passed

-- ---- while it is tested

-- the machine of the list at a path, or why there is none
abbrev pub IsFound : (List ℕ → Option (List ℕ)) → Settings → Option (List ℕ) → Result Machine StartListFailure → Type 0
IsFound texts settings path found =
    IfOk found (IsMachineOf texts settings path)
    × IfErr found (λ failure. lacks_memory failure ≡ false → LacksList texts settings path)

-- the test of a scenario on a machine, if there is one
abbrev pub IsMachineResult : (List ℕ → Option (List ℕ)) → Settings → Result Machine StartListFailure → List ℕ → Bool → Type 0
IsMachineResult texts settings (Ok machine) scenario passed =
    (list : Listed) × (list_in (bytes_of machine.text) ≡ Ok list) × IsFileResult texts settings list scenario passed
IsMachineResult texts settings (Err failure) scenario passed = (lacks_memory failure ≡ false) × (passed ≡ false)
