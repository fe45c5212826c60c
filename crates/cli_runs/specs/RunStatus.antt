-- The errors that the exit status of a run comes from.
use Rattle.std.specs.Prelude.{◌≡◌, ◌≢◌, ◌⊎◌, ℕ, ◌==◌, ◌||◌, Bool, false, List, length, nat_lt, if◌then◌else◌, Option, Some, None, IfErr, IfNone, IfSome, IfOk, Result, Ok}
use Rattle.std.specs.Option.{option_copied}
use Rattle.line_names.specs.RoundMarks.{RoundMark}
use Rattle.line_steps.specs.RunPosition.{RunPosition, first_position}
use Rattle.list_parser.specs.Quota.{quota_fault}
use Rattle.list_parser.specs.declared.fault.BootFault.{BootFault}
use Rattle.list_parser.specs.declared.fault.BootFault.TheVariants.{NoMemory}
use Rattle.run_scenario.specs.Judging.{errors_of}
use Rattle.run_scenario.specs.LineSteps.{LineStep}
use Rattle.run_scenario.specs.RunCalls.{calls_answered}
use Rattle.run_scenario.specs.ScenarioEnd.{status_of}
use Rattle.run_scenario.specs.Writes.{AreAll, RunStart, start_on, steps_from}
use Rattle.run_scenario.specs.declared.scenario_end.ScenarioEnd.{ScenarioEnd}
use Rattle.run_scenario.specs.declared.scenario_input.ScenarioInput.{ScenarioInput}
use Rattle.own_model.specs.Listed.{Listed}
use Rattle.list_parser.specs.StartText.{list_in}
use Rattle.cli_base.specs.Texts.{bytes_of}
use Rattle.cli_base.specs.Given.{names_of}
use Rattle.cli_base.specs.declared.machine.Machine.{Machine}
use Rattle.cli_base.specs.declared.settings.Settings.{Settings}
use Rattle.cli_runs.specs.RunEnd.{end_status}
use Rattle.cli_runs.specs.declared.view.RunView.{RunView}
use Rattle.cli_runs.specs.declared.view.RunView.TheVariants.{Run, Trace, Accounts, Alone}

-- the component whose lines alone are run, or none if all lines are
abbrev pub only_of : RunView → Option (List ℕ)
only_of (Run options coloring) = option_copied options.only
only_of (Trace json) = None
only_of (Accounts json) = None
only_of (Alone name) = None

-- the view is of a component that makes none of the calls of these steps
abbrev pub has_no_line : RunView → List LineStep → Bool
has_no_line (Run options coloring) steps = false
has_no_line (Trace json) steps = false
has_no_line (Accounts json) steps = false
has_no_line (Alone name) steps = length (calls_answered (Some name.now) steps) == 0

-- the run of a view begins there
abbrev pub start_of : RunView → ScenarioInput → RunStart
start_of view play = start_on (only_of view) play.start play.list.now

-- the lines of a run have an error, or none of them is of the component that is asked for
abbrev pub have_errors : RunView → RunStart → List (List ℕ) → Bool
have_errors view start lines =
    has_no_line view (steps_from start lines) || nat_lt 0 (errors_of start.list start.only start.world start.awaited (steps_from start lines))

-- if no fault stopped a run, its status is 3 exactly if its lines have an error, and else 0; they are all of the input, if that is
-- known
abbrev pub HasStatus : RunView → RunStart → Option (List ℕ) → ScenarioEnd → Type 0
HasStatus view start input ending =
    IfNone ending.fault ((lines : List (List ℕ)) × IfSome input (AreAll lines)
    × (status_of (Ok ending) ≡ (if have_errors view start lines then 3 else 0)))

-- a run didn't begin: the host is out of memory, or the list doesn't boot
abbrev pub IsUnbooted : Listed → BootFault → Type 0
IsUnbooted list fault = fault ≢ NoMemory → quota_fault list ≡ Some fault

-- a run of a list's machine from a position on ended so, and this is its status, unless nobody reads what is written
pub record HasRun (list : Listed) (view : RunView) (first : RunPosition) (input : Option (List ℕ)) (status : ℕ) : Type 0 where
  pub ended : Result ScenarioEnd BootFault
  pub unread : Bool
  pub ends : IfOk ended (HasStatus view (start_on (only_of view) first list) input)
  pub unbooted : IfErr ended (IsUnbooted list)
  pub status_is : status ≡ end_status ended unread

-- a run on a machine ended so, or the host was out of memory before its first line
abbrev pub EndsFrom : Machine → RunView → RunPosition → Option (List ℕ) → ℕ → Type 0
EndsFrom machine view first input status =
    (list : Listed) × (list_in (bytes_of machine.text) ≡ Ok list) × ((status ≡ 1) ⊎ HasRun list view first input status)

-- the position before the first line of a scenario with these round marks
abbrev pub start_by : Settings → List RoundMark → RunPosition
start_by settings marks = first_position (names_of settings) marks
