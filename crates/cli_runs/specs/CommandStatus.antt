-- The exit status of each command that runs a scenario.
use Rattle.std.specs.Prelude.{◌≡◌, ◌⊎◌, ℕ, ◌==◌, ◌&&◌, ◌||◌, Bool, true, false, List, [], codes, is_some, length, nat_lt, if◌then◌else◌, position, Option, Some, None, MatchBool, ⊤, Ok}
use Rattle.std.specs.Borrow.{Bor}
use Rattle.std.specs.List.{list_any}
use Rattle.std.specs.Option.{option_copied}
use Rattle.std.specs.Str.{bytes_eq}
use Rattle.own_model.specs.Listed.{Listed, ListedEntry}
use Rattle.own_model.specs.Text.{lines_of}
use Rattle.list_parser.specs.Depth.{runs_script}
use Rattle.list_parser.specs.Quota.{quota_fault}
use Rattle.list_parser.specs.StartText.{list_in}
use Rattle.line_rounds.specs.Unfolding.{UnfoldedText}
use Rattle.run_lines.specs.Machine.{world_of}
use Rattle.run_record.specs.LineErrors.{recording_errors}
use Rattle.run_scenario.specs.Judging.{errors_of}
use Rattle.run_scenario.specs.Writes.{RunStart, start_on, steps_from}
use Rattle.view_runs.specs.declared.alone_run.AloneComparison.{AloneComparison}
use Rattle.cli_options.specs.declared.command_options.AccountsOptions.{AccountsOptions}
use Rattle.cli_options.specs.declared.command_options.AloneOptions.{AloneOptions}
use Rattle.cli_options.specs.declared.command_options.RecordOptions.{RecordOptions}
use Rattle.cli_options.specs.declared.command_options.RunOptions.{RunOptions}
use Rattle.cli_options.specs.declared.command_options.TraceOptions.{TraceOptions}
use Rattle.cli_base.specs.Files.{IsTextAt, IsTooLong, IsUnknown}
use Rattle.cli_base.specs.MachineChoice.{IsMachineFor, LacksMachine}
use Rattle.cli_base.specs.Statuses.{EndsAs}
use Rattle.cli_base.specs.Texts.{bytes_of}
use Rattle.cli_base.specs.Unfolding.{EndsOnText, EndsUnfolded}
use Rattle.cli_base.specs.declared.machine.Machine.{Machine}
use Rattle.cli_base.specs.declared.settings.Settings.{Settings}
use Rattle.cli_runs.specs.RunStatus.{EndsFrom, start_by}
use Rattle.cli_runs.specs.declared.run_request.RunRequest.{RunRequest}
use Rattle.cli_runs.specs.declared.view.RunView.{RunView}
use Rattle.cli_runs.specs.declared.view.RunView.TheVariants.{Run, Trace, Accounts, Alone}

-- the list of a machine
abbrev pub IsListOf : Machine → Listed → Type 0
IsListOf machine list = list_in (bytes_of machine.text) ≡ Ok list

-- ---- a run

-- the lines of a text ran
abbrev pub EndsLines : Machine → RunRequest → UnfoldedText → ℕ → Type 0
EndsLines machine request lines status =
    EndsFrom machine request.viewing (start_by request.settings lines.marks) (Some lines.text) status

-- a text is read whole, and its rounds are unfolded
abbrev pub EndsWhole : (List ℕ → Option (List ℕ)) → Machine → RunRequest → ℕ → Type 0
EndsWhole texts machine request status =
    (text : List ℕ) × IsTextAt texts request.scenario.now text
    × EndsUnfolded request.settings text (EndsLines machine request) status

-- a path is that of standard input
abbrev pub is_input : List ℕ → Bool
is_input path = bytes_eq path (codes "-")

-- a scenario isn't read whole, and its lines are run one by one: those of standard input, or of a file that is too long, as far as it
-- is known
abbrev pub EndsByLine : (List ℕ → Option (List ℕ)) → Machine → RunRequest → ℕ → Type 0
EndsByLine texts machine request status =
    let path = request.scenario.now in
    let Ends = λ (input : Option (List ℕ)). EndsFrom machine request.viewing (start_by request.settings []) input status in
    ((is_input path ≡ true) × Ends None) ⊎ (IsTooLong texts path × Ends (texts path))

-- a scenario ran on a machine
abbrev pub EndsOn : (List ℕ → Option (List ℕ)) → Machine → RunRequest → ℕ → Type 0
EndsOn texts machine request status = EndsWhole texts machine request status ⊎ EndsByLine texts machine request status

-- a component has a name, if one is asked for
abbrev pub is_known : Option (Bor (List ℕ)) → Listed → Bool
is_known None list = true
is_known (Some name) list = is_some (position (λ entry. bytes_eq entry.path name.now) list.entries)

-- the status of a run: 3 for an unknown name, if nothing else is reported
abbrev pub named_status : Bool → ℕ → ℕ
named_status known status = if known then status else (if status == 0 then 3 else status)

abbrev pub EndsNamed : (List ℕ → Option (List ℕ)) → Machine → RunRequest → ℕ → Type 0
EndsNamed texts machine request status =
    (list : Listed) × IsListOf machine list
    × ((ran : ℕ) × EndsOn texts machine request ran × (status ≡ named_status (is_known request.name list) ran))

-- on the machine of the list that is chosen
abbrev pub EndsChosen : (List ℕ → Option (List ℕ)) → Option (Bor (List ℕ)) → RunRequest → ℕ → Type 0
EndsChosen texts named request status =
    (machine : Machine) × IsMachineFor texts request.settings named request.scenario.now machine × EndsNamed texts machine request status

-- ---- refusals

-- there is no machine, or the text of the scenario isn't known
abbrev pub RunRefused : (List ℕ → Option (List ℕ)) → Option (Bor (List ℕ)) → RunRequest → Type 0
RunRefused texts named request =
    LacksMachine texts request.settings named request.scenario.now ⊎ IsUnknown texts request.scenario.now

-- a list doesn't boot, or that of a machine
abbrev pub IsUnbootable : Listed → Type 0
IsUnbootable list = is_some (quota_fault list) ≡ true

abbrev pub LacksQuota : Machine → Type 0
LacksQuota machine = (list : Listed) × IsListOf machine list × IsUnbootable list

-- ---- commands

-- a run is of a scenario with these settings, of such a view, and of a name if one is given
abbrev pub IsRunOf : List ℕ → Settings → (RunView → Type 0) → Option (List ℕ) → RunRequest → Type 0
IsRunOf scenario settings IsView name request =
    (request.scenario.now ≡ scenario) × (request.settings ≡ settings) × IsView request.viewing × (option_copied request.name ≡ name)

-- a command ends with the status of such a run, or refuses it
abbrev pub EndsRun : (List ℕ → Option (List ℕ)) → Option (Bor (List ℕ)) → (RunRequest → Type 0) → ℕ → Type 0
EndsRun texts named IsRun status =
    (request : RunRequest) × IsRun request × EndsAs (RunRefused texts named request) (EndsChosen texts named request) status

-- the views of the commands
abbrev pub IsTranscript : Option (List ℕ) → RunView → Type 0
IsTranscript only (Run options coloring) = option_copied options.only ≡ only
IsTranscript only (Trace json) = ⊥
IsTranscript only (Accounts json) = ⊥
IsTranscript only (Alone name) = ⊥

abbrev pub IsTrace : RunView → Type 0
IsTrace (Run options coloring) = ⊥
IsTrace (Trace json) = ⊤
IsTrace (Accounts json) = ⊥
IsTrace (Alone name) = ⊥

abbrev pub IsAccountView : RunView → Type 0
IsAccountView (Run options coloring) = ⊥
IsAccountView (Trace json) = ⊥
IsAccountView (Accounts json) = ⊤
IsAccountView (Alone name) = ⊥

abbrev pub IsAloneView : List ℕ → RunView → Type 0
IsAloneView named (Run options coloring) = ⊥
IsAloneView named (Trace json) = ⊥
IsAloneView named (Accounts json) = ⊥
IsAloneView named (Alone name) = name.now ≡ named

abbrev pub RunEnds : (List ℕ → Option (List ℕ)) → RunOptions → Settings → ℕ → Type 0
RunEnds texts asked settings status =
    let only = option_copied asked.only in
    EndsRun texts asked.machine (IsRunOf asked.scenario.now settings (IsTranscript only) only) status

abbrev pub TraceEnds : (List ℕ → Option (List ℕ)) → TraceOptions → Settings → ℕ → Type 0
TraceEnds texts asked settings status =
    EndsRun texts asked.machine (IsRunOf asked.scenario.now settings IsTrace None) status

abbrev pub AccountsEnd : (List ℕ → Option (List ℕ)) → AccountsOptions → Settings → ℕ → Type 0
AccountsEnd texts asked settings status =
    EndsRun texts asked.machine (IsRunOf asked.scenario.now settings IsAccountView None) status

abbrev pub AloneEnds : (List ℕ → Option (List ℕ)) → AloneOptions → List ℕ → Settings → ℕ → Type 0
AloneEnds texts asked scenario settings status =
    let name = asked.name.now in
    EndsRun texts asked.machine (IsRunOf scenario settings (IsAloneView name) (Some name)) status

-- ---- all scripts alone

-- a line of a text has an error in a run from there on
abbrev pub text_has_error : RunStart → List ℕ → Bool
text_has_error start text = nat_lt 0 (errors_of start.list start.only start.world start.awaited (steps_from start (lines_of text)))

-- the status of a comparison: 1 for a fault of the run, 3 if a line has an error or the script has another reply alone
abbrev pub comparison_status : AloneComparison → ℕ
comparison_status compared =
    if is_some compared.ending.fault then 1
    else (if nat_lt 0 compared.ending.complaints || is_some compared.difference then 3 else 0)

-- without a fault: 3 exactly if a line has an error, since no script has another reply alone
abbrev pub lines_status : Listed → Settings → UnfoldedText → ℕ
lines_status list settings lines = if text_has_error (start_on None (start_by settings lines.marks) list) lines.text then 3 else 0

-- a machine without scripts has nothing to compare
abbrev pub compared_status : List ListedEntry → ℕ → ℕ
compared_status entries status = if list_any (λ entry. runs_script entry.binary) entries then status else 0

abbrev pub EndsCompared : Settings → Machine → UnfoldedText → ℕ → Type 0
EndsCompared settings machine lines status =
    (list : Listed) × IsListOf machine list × (status ≡ compared_status list.entries (lines_status list settings lines))

abbrev pub AllAloneEnd : (List ℕ → Option (List ℕ)) → AloneOptions → Settings → ℕ → Type 0
AllAloneEnd texts asked settings status =
    EndsOnText texts settings asked.machine asked.name.now LacksQuota
    (λ machine text lines ended. EndsCompared settings machine lines ended) status

-- ---- a recording

-- 3 exactly if a line has an error
abbrev pub recorded_status : ℕ → ℕ
recorded_status errors = if nat_lt 0 errors then 3 else 0

abbrev pub EndsRecorded : Settings → Machine → UnfoldedText → ℕ → Type 0
EndsRecorded settings machine lines status =
    (list : Listed) × IsListOf machine list
    × (status ≡ recorded_status (length (recording_errors list (world_of list) (start_by settings lines.marks) lines.text)))

-- standard input isn't written
abbrev pub RecordEnds : (List ℕ → Option (List ℕ)) → RecordOptions → Settings → ℕ → Type 0
RecordEnds texts asked settings status =
    MatchBool (asked.write && is_input asked.scenario.now) (status ≡ 2)
    (EndsOnText texts settings asked.machine asked.scenario.now LacksQuota (λ machine text lines ended. EndsRecorded settings machine lines ended) status)
