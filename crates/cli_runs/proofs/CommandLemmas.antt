-- The status of a command, by that of its run.
use Rattle.std.proofs.Common.{◌≡◌, ℕ, Bool, true, false, List, length, Option, Some, None, refl, sym, subst, ap, ◌∙◌, inl, inr}
use Rattle.std.specs.Prelude.{◌⊎◌, ◌≢◌, ◌==◌, if◌then◌else◌, is_some, IfOk, IfSome, MatchBool, Result, Ok}
use Rattle.std.specs.Borrow.{Bor}
use Rattle.std.specs.Option.{option_copied}
use Rattle.std.proofs.lemmas.List.{length-map}
use Rattle.own_model.specs.Listed.{Listed}
use Rattle.list_parser.specs.declared.fault.BootFault.{BootFault}
use Rattle.list_parser.specs.declared.fault.BootFault.TheVariants.{NoMemory}
use Rattle.line_names.specs.RoundMarks.{RoundMark}
use Rattle.line_rounds.specs.Unfolding.{UnfoldedText}
use Rattle.line_steps.specs.RunPosition.{RunPosition}
use Rattle.run_lines.specs.Machine.{world_of}
use Rattle.run_record.specs.LineErrors.{error_view, errors_view, recording_errors}
use Rattle.run_record.specs.declared.recording_error.RecordingError.{RecordingError}
use Rattle.cli_base.proofs.StatusLemmas.{ends_by, failed_by}
use Rattle.cli_base.proofs.UnfoldingLemmas.{lacks_machine}
use Rattle.cli_base.specs.Files.{IsTextAt, IsUnknown}
use Rattle.cli_base.specs.ListFailures.{boot_lacks_memory}
use Rattle.cli_base.specs.MachineChoice.{IsChosen, IsMachineFor, LacksMachine, list_path}
use Rattle.cli_base.specs.MachineTexts.{LacksList}
use Rattle.cli_base.specs.Statuses.{EndsAs, HasNoResult, boot_status}
use Rattle.cli_base.specs.Unfolding.{EndsOnText, EndsUnfolded, HasRoundsFault, rounds_of}
use Rattle.cli_base.specs.declared.machine.Machine.{Machine}
use Rattle.cli_base.specs.declared.machine_choice.MachineChoice.{MachineChoice}
use Rattle.cli_base.specs.declared.settings.Settings.{Settings}
use Rattle.cli_runs.specs.CommandStatus.{EndsByLine, EndsChosen, EndsLines, EndsNamed, EndsOn, EndsRecorded, IsListOf, IsRunOf, IsUnbootable, LacksQuota, RunRefused, is_known, named_status, recorded_status}
use Rattle.cli_runs.specs.RunStatus.{IsUnbooted, start_by}
use Rattle.cli_runs.specs.declared.run_request.RunRequest.{RunRequest}
use Rattle.cli_runs.specs.declared.view.RunView.{RunView}

-- a value that was made
pub of_made : {T E : Type 0} (P : T → Type 0) (made : Result T E) (value : T) → made ≡ Ok value → IfOk made P → P value
of_made P made value is holds = subst (λ m. IfOk m P) is holds

-- what isn't refused
pub unrefused : (refused : Bool) (P : Type 0) (status : ℕ) → refused ≡ false → P → MatchBool refused (status ≡ 2) P
unrefused refused P status is held = subst (λ (x : Bool). MatchBool x (status ≡ 2) P) (sym is) held

-- a file that can't be opened isn't known
pub unopened : (known : Option (List ℕ)) → IfSome known (λ bytes. false ≡ true) → known ≡ None
unopened None opens = refl
unopened (Some bytes) opens = absurd (let works : false ≡ true = opens in cc)

-- a list that doesn't boot is refused, unless the host is out of memory
pub unbooted_ends : (list : Listed) (fault : BootFault) (status : ℕ) → IsUnbooted list fault → status ≡ boot_status fault
    → HasNoResult (IsUnbootable list) status
unbooted_ends list fault status unbooted is = by (boot_lacks_memory fault) refl
  where
    by : (lacks : Bool) → boot_lacks_memory fault ≡ lacks → HasNoResult (IsUnbootable list) status
    by true lacks = inl (inl (is ∙ ap (λ b. if b then 1 else 2) lacks))
    by false lacks =
        let other : fault ≢ NoMemory = λ no. (let has : boot_lacks_memory fault ≡ true = ap boot_lacks_memory no in cc) in
        inr (is ∙ ap (λ b. if b then 1 else 2) lacks, ap is_some (unbooted other))

-- the same of the list of a machine
pub machine_ends : (machine : Machine) (list : Listed) (status : ℕ) → IsListOf machine list → HasNoResult (IsUnbootable list) status
    → HasNoResult (LacksQuota machine) status
machine_ends machine list status reads (inl failed) = inl failed
machine_ends machine list status reads (inr (two, refused)) = inr (two, (list, reads, refused))

-- a list that is chosen isn't read
pub list_unread : (texts : List ℕ → Option (List ℕ)) (settings : Settings) (named : Option (Bor (List ℕ))) (scenario : List ℕ)
    (choice : MachineChoice) (path : Option (Bor (List ℕ))) (status : ℕ) → IsChosen texts named scenario choice
    → option_copied path ≡ list_path choice → (status ≡ 1) ⊎ (status ≡ 2) × LacksList texts settings (option_copied path)
    → (status ≡ 1) ⊎ (status ≡ 2) × LacksMachine texts settings named scenario
list_unread texts settings named scenario choice path status chosen is (inl one) = inl one
list_unread texts settings named scenario choice path status chosen is (inr (two, lacks)) =
    inr (two, lacks_machine texts settings named scenario choice path chosen is lacks)

-- the rounds of a text have a fault
pub folded_text : (texts : List ℕ → Option (List ℕ)) (settings : Settings) (named : Option (Bor (List ℕ))) (scenario : List ℕ)
    (Refuses : Machine → Type 0) (Ends : Machine → List ℕ → UnfoldedText → ℕ → Type 0) (text : List ℕ) (status : ℕ)
    → IsTextAt texts scenario text → (status ≡ 1) ⊎ (status ≡ 3) → (status ≡ 3 → HasRoundsFault settings text)
    → EndsOnText texts settings named scenario Refuses Ends status
folded_text texts settings named scenario Refuses Ends text status at (inl one) fault = inl (inl (inl one))
folded_text texts settings named scenario Refuses Ends text status at (inr three) fault = inr (text, at, inl (fault three, three))

-- ---- a run

-- the status of a fault is kept for a name that isn't known
named_kept : (known : Bool) (status : ℕ) → (status == 0) ≡ false → named_status known status ≡ status
named_kept true status is = refl
named_kept false status is = ap (λ b. if b then 3 else status) is

module _ (texts : List ℕ → Option (List ℕ)) (machine : Machine) (request : RunRequest) where
  -- a text that is read whole
  pub whole_ran : (text : List ℕ) (status : ℕ) → IsTextAt texts request.scenario.now text
      → EndsAs ⊥ (EndsUnfolded request.settings text (EndsLines machine request)) status
      → EndsAs (IsUnknown texts request.scenario.now) (EndsOn texts machine request) status
  whole_ran text status at =
      ends_by ⊥ (IsUnknown texts request.scenario.now) (EndsUnfolded request.settings text (EndsLines machine request))
      (EndsOn texts machine request) (λ never. absurd never) (λ ended ends. inl (text, at, ends)) status

  -- a name is known, or not
  pub named_ran : (known : Bool) (list : Listed) (ran status : ℕ) → IsListOf machine list → known ≡ is_known request.name list
      → EndsAs (IsUnknown texts request.scenario.now) (EndsOn texts machine request) ran → status ≡ named_status known ran
      → EndsAs (IsUnknown texts request.scenario.now) (EndsNamed texts machine request) status
  named_ran known list ran status reads is (inl failed) by =
      inl (failed_by (IsUnknown texts request.scenario.now) (named_status known) ran status (named_kept known 1 refl) (named_kept known 2 refl)
      (named_kept known 141 refl) by failed)
  named_ran known list ran status reads is (inr ends) by =
      inr (list, reads, (ran, ends, by ∙ ap (λ (k : Bool). named_status k ran) is))

  -- a file that is run line by line
  pub long_ran : (status : ℕ) → EndsAs (IsUnknown texts request.scenario.now) (EndsByLine texts machine request) status
      → EndsAs (IsUnknown texts request.scenario.now) (EndsOn texts machine request) status
  long_ran status =
      ends_by (IsUnknown texts request.scenario.now) (IsUnknown texts request.scenario.now) (EndsByLine texts machine request)
      (EndsOn texts machine request) (λ why. why) (λ ended ends. inr ends) status

module _ (texts : List ℕ → Option (List ℕ)) (named : Option (Bor (List ℕ))) (request : RunRequest) where
  -- a run on the machine that is chosen
  pub chosen_ran : (machine : Machine) (status : ℕ) → IsMachineFor texts request.settings named request.scenario.now machine
      → EndsAs (IsUnknown texts request.scenario.now) (EndsNamed texts machine request) status
      → EndsAs (RunRefused texts named request) (EndsChosen texts named request) status
  chosen_ran machine status for =
      ends_by (IsUnknown texts request.scenario.now) (RunRefused texts named request) (EndsNamed texts machine request)
      (EndsChosen texts named request) (λ why. inr why) (λ ended ends. (machine, for, ends)) status

  -- there is no machine
  pub chosen_unread : (status : ℕ) → (status ≡ 1) ⊎ (status ≡ 2) × LacksMachine texts request.settings named request.scenario.now
      → EndsAs (RunRefused texts named request) (EndsChosen texts named request) status
  chosen_unread status (inl one) = inl (inl (inl one))
  chosen_unread status (inr (two, lacks)) = inl (inr (two, inl lacks))

-- of a view that is one of these
pub whole_run : (scenario : List ℕ) (settings : Settings) (view : RunView) (IsView : RunView → Type 0) (request : RunRequest) → IsView view
    → IsRunOf scenario settings (λ v. v ≡ view) None request → IsRunOf scenario settings IsView None request
whole_run scenario settings view IsView request viewed is = (is.0, is.1, subst IsView (sym is.2) viewed, is.3)

-- ---- a recording

-- a scenario that was recorded
pub recorded : (settings : Settings) (machine : Machine) (list : Listed) (text : List ℕ) (lines : UnfoldedText) (first : RunPosition) (marks : List RoundMark)
    (bytes : List ℕ) (errors : List RecordingError) (status : ℕ) → IsListOf machine list → rounds_of settings text ≡ Ok lines
    → first ≡ start_by settings marks → marks ≡ lines.marks → bytes ≡ lines.text
    → errors_view errors ≡ recording_errors list (world_of list) first bytes → EndsAs ⊥ (λ s. s ≡ recorded_status (length errors)) status
    → EndsAs (LacksQuota machine) (EndsUnfolded settings text (EndsRecorded settings machine)) status
recorded settings machine list text lines first marks bytes errors status reads unfolds first_is marks_are bytes_are are =
    ends_by ⊥ (LacksQuota machine) (λ s. s ≡ recorded_status (length errors))
    (EndsUnfolded settings text (EndsRecorded settings machine)) (λ never. absurd never)
    (λ ended by. inr (lines, unfolds, (list, reads, by ∙ ap recorded_status count))) status
  where
    count : length errors ≡ length (recording_errors list (world_of list) (start_by settings lines.marks) lines.text)
    count =
        sym (length-map errors error_view)
        ∙ ap length are
        ∙ ap (λ (f : RunPosition). length (recording_errors list (world_of list) f bytes)) (first_is ∙ ap (start_by settings) marks_are)
        ∙ ap (λ (bs : List ℕ). length (recording_errors list (world_of list) (start_by settings lines.marks) bs)) bytes_are
