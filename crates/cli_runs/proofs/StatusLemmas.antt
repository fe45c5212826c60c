-- The status of a run, by what its view promises.
use Rattle.std.proofs.Common.{◌≡◌, ℕ, List, ◌++◌, append-nil, Bool, false, true, Option, Some, None, IfNone, IfSome, refl, sym, ◌∙◌, ap, subst, inl, inr}
use Rattle.std.specs.Prelude.{◌==◌, ◌||◌, is_some, length, nat_lt, if◌then◌else◌, IfOk, Result, Ok, Err}
use Rattle.list_parser.specs.declared.fault.BootFault.{BootFault}
use Rattle.run_lines.specs.LineRuns.{EndsFor}
use Rattle.run_lines.specs.declared.line_run_fault.LineRunFault.{LineRunFault}
use Rattle.run_scenario.specs.Faults.{unplayed}
use Rattle.run_scenario.specs.Judging.{errors_of}
use Rattle.run_scenario.specs.LineSteps.{LineStep}
use Rattle.run_scenario.specs.RunCalls.{calls_answered}
use Rattle.run_scenario.specs.ScenarioEnd.{status_of}
use Rattle.run_scenario.specs.ScenarioRuns.{most_lines}
use Rattle.run_scenario.specs.Writes.{AreAll, IsRunFrom, RunStart, start_on, steps_from}
use Rattle.run_scenario.specs.declared.scenario_end.ScenarioEnd.{ScenarioEnd}
use Rattle.view_runs.specs.Alone.{CountsAlone}
use Rattle.view_runs.specs.declared.alone_run.AloneComparison.{AloneComparison}
use Rattle.line_steps.specs.RunPosition.{RunPosition}
use Rattle.cli_base.specs.declared.machine.Machine.{Machine}
use Rattle.cli_runs.specs.RunStatus.{EndsFrom, HasStatus, has_no_line, have_errors, only_of}
use Rattle.cli_runs.specs.declared.view.RunView.{RunView}

-- all lines ran
all_lines : (input rest : Option (List ℕ)) (lines : List (List ℕ)) (failed : Bool) → EndsFor most_lines None lines input rest failed → IfSome input (AreAll lines)
all_lines None rest lines failed ends = tt
all_lines (Some text) rest lines failed ends = ends.1 ∙ ap (λ left. lines ++ left) ends.2.0 ∙ append-nil lines

-- the status of an end without a fault
status_is : (ending : ScenarioEnd) (errors : Bool) → ending.fault ≡ None → nat_lt 0 ending.complaints ≡ errors → status_of (Ok ending) ≡ (if errors then 3 else 0)
status_is ending errors none are =
    ap (λ (f : Option LineRunFault). if is_some f then 1 else (if nat_lt 0 ending.complaints then 3 else 0)) none ∙ ap (λ b. if b then 3 else 0) are

-- without a fault this is known of an end
abbrev KnownEnd : RunView → RunStart → Option (List ℕ) → ScenarioEnd → Option LineRunFault → Type 0
KnownEnd view start input ending fault =
    IfNone fault ((lines : List (List ℕ)) × IfSome input (AreAll lines)
    × (status_of (Ok ending) ≡ (if have_errors view start lines then 3 else 0)))

-- of an input that isn't known less is known
without_input : (view : RunView) (start : RunStart) (input : Option (List ℕ)) (ending : ScenarioEnd) (fault : Option LineRunFault)
    → KnownEnd view start input ending fault → KnownEnd view start None ending fault
without_input view start input ending None (lines, all, is) = (lines, tt, is)
without_input view start input ending (Some fault) known = tt

unknown_input : (view : RunView) (start : RunStart) (input : Option (List ℕ)) (ended : Result ScenarioEnd BootFault)
    → IfOk ended (HasStatus view start input) → IfOk ended (HasStatus view start None)
unknown_input view start input (Ok ending) has = without_input view start input ending ending.fault has
unknown_input view start input (Err fault) has = tt

-- a run of all that a file has left is one of the file's bytes, if these are known
pub ends_by_file : (machine : Machine) (view : RunView) (first : RunPosition) (bytes input : Option (List ℕ)) (status : ℕ)
    → IfSome bytes (λ text. input ≡ Some text) → EndsFrom machine view first input status → EndsFrom machine view first bytes status
ends_by_file machine view first None input status is (list, reads, inl one) = (list, reads, inl one)
ends_by_file machine view first None input status is (list, reads, inr ran) = (
  list,
  reads,
  inr (record {
    ended = ran.ended;
    unread = ran.unread;
    ends = unknown_input view (start_on (only_of view) first list) input ran.ended ran.ends;
    unbooted = ran.unbooted;
    status_is = ran.status_is;
  }),
)
ends_by_file machine view first (Some text) input status is ends = subst (λ i. EndsFrom machine view first i status) is ends

-- nothing more
or_none : (b : Bool) → (b || false) ≡ b
or_none true = refl
or_none false = refl

module _ (view : RunView) (start : RunStart) (input : Option (List ℕ)) where
  -- the same of this run
  abbrev Known : ScenarioEnd → Option LineRunFault → Type 0
  Known ending f = KnownEnd view start input ending f

  -- a run of all lines
  status_of_run : {told behind : List LineStep → List ℕ} {calls : Bool} {reports : List (List ℕ) → Type 0} {ending : ScenarioEnd} {rest w w' : Option (List ℕ)} {failed : Bool} → ((steps : List LineStep) → has_no_line view steps ≡ false) →
      IsRunFrom start told behind calls reports ending input rest failed w w' → HasStatus view start input ending
  status_of_run {ending = ending} {rest = rest} {failed = failed} silent run = by ending.fault refl run.ends run.complained
    where
      errors : ℕ
      errors = errors_of start.list start.only start.world start.awaited (steps_from start run.given)

      by : (f : Option LineRunFault) → ending.fault ≡ f → EndsFor most_lines f run.given input rest failed → IfNone f (ending.complaints ≡ errors) → Known ending f
      by None is ends counts = (
        run.given,
        all_lines input rest run.given failed ends,
        status_is ending (have_errors view start run.given) is
            (ap (nat_lt 0) counts ∙ sym (ap (λ b. b || nat_lt 0 errors) (silent (steps_from start run.given)))),
      )
      by (Some fault) is ends counts = tt

  -- a run of another fault says nothing of errors
  has_fault : (ending : ScenarioEnd) (fault : LineRunFault) → ending.fault ≡ Some fault → HasStatus view start input ending
  has_fault ending fault is = subst (Known ending) (sym is) tt

  -- or a device had failed before
  pub has_status : {told behind : List LineStep → List ℕ} {calls : Bool} {reports : List (List ℕ) → Type 0} (ending : ScenarioEnd) {rest w w' : Option (List ℕ)} {failed : Bool} (B C D : Type 0) (before : Option LineRunFault) → ((steps : List LineStep) → has_no_line view steps ≡ false) →
      (before ≡ None → IsRunFrom start told behind calls reports ending input rest failed w w') → IfSome before (λ fault. (ending ≡ unplayed fault) × B × C × D) → HasStatus view start input ending
  has_status ending B C D None silent runs before = status_of_run silent (runs refl)
  has_status ending B C D (Some fault) silent runs before = subst (λ e. HasStatus view start input e) (sym before.0) tt

  -- of a run's result
  pub status_of_result : (told behind : List LineStep → List ℕ) (calls : Bool) (reports : List (List ℕ) → Type 0) (rest w w' : Option (List ℕ)) (failed : Bool) (B C D : Type 0) (r : Result ScenarioEnd BootFault) (before : Option LineRunFault) → ((steps : List LineStep) → has_no_line view steps ≡ false) →
      IfOk r (λ ending. before ≡ None → IsRunFrom start told behind calls reports ending input rest failed w w') → IfOk r (λ ending. IfSome before (λ fault. (ending ≡ unplayed fault) × B × C × D)) → IfOk r (HasStatus view start input)
  status_of_result told behind calls reports rest w w' failed B C D (Ok ending) before silent runs first = has_status ending B C D before silent runs first
  status_of_result told behind calls reports rest w w' failed B C D (Err fault) before silent runs first = tt

  -- a comparison has the errors of the whole run, and one more if no call of the name was answered
  pub has_status_alone : (name : List ℕ) (compared : AloneComparison) (ending : ScenarioEnd) (B C D : Type 0) (before : Option LineRunFault) → ((steps : List LineStep) → has_no_line view steps ≡ (length (calls_answered (Some name) steps) == 0)) →
      (before ≡ None → IfNone compared.ending.fault (CountsAlone name start input compared.ending.complaints compared.lines)) → (before ≡ None → IfNone compared.ending.fault (compared.difference ≡ None)) →
      IfSome before (λ fault. (compared.ending ≡ unplayed fault) × B × C × D) → ending.fault ≡ compared.ending.fault →
      nat_lt 0 ending.complaints ≡ (compared.lines == 0 || is_some compared.difference || nat_lt 0 compared.ending.complaints) → HasStatus view start input ending
  has_status_alone name compared ending B C D (Some fault) none counts same before faults errors =
      has_fault ending fault (faults ∙ ap (λ (e : ScenarioEnd). e.fault) before.0)
  has_status_alone name compared ending B C D None none counts same before faults errors = by compared.ending.fault refl (counts refl) (same refl)
    where
      by : (f : Option LineRunFault) → compared.ending.fault ≡ f → IfNone f (CountsAlone name start input compared.ending.complaints compared.lines) → IfNone f (compared.difference ≡ None) →
          HasStatus view start input ending
      by (Some fault) is all alike = has_fault ending fault (faults ∙ is)
      by None is all alike =
          let steps = steps_from start all.given in
          let own : ℕ = errors_of start.list start.only start.world start.awaited steps in
          let are : nat_lt 0 ending.complaints ≡ have_errors view start all.given =
          errors ∙ (λ i. all.counted i == 0 || is_some (alike i) || nat_lt 0 (all.complained i))
          ∙ ap (λ b. b || nat_lt 0 own) (or_none (length (calls_answered (Some name) steps) == 0)) ∙ sym (ap (λ b. b || nat_lt 0 own) (none steps)) in
          subst (Known ending) (sym (faults ∙ is)) (all.given, all.all, status_is ending (have_errors view start all.given) (faults ∙ is) are)

  -- an end that is this one, unless a fault came after it
  pub has_status_after : (played ending : ScenarioEnd) → IfNone ending.fault (ending ≡ played) → HasStatus view start input played → HasStatus view start input ending
  has_status_after played ending same has = by ending.fault refl same
    where
      by : (f : Option LineRunFault) → ending.fault ≡ f → IfNone f (ending ≡ played) → HasStatus view start input ending
      by None is same = subst (λ e. HasStatus view start input e) (sym same) has
      by (Some fault) is same = has_fault ending fault is
