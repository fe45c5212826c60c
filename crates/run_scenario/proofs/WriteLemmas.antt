-- What is written of a play, from what the play itself promises.
use Rattle.std.proofs.Common.{◌≡◌, ◌≢◌, ℕ, ◌≤◌, Bool, true, false, List, [], ◌∷◌, ◌++◌, length, Option, Some, None, IfSome, IfNone, Result, Ok, Err, IsErrAnd, inl, inr, arith, refl, sym, ◌∙◌, ap, subst, append_assoc, append-nil}
use Rattle.std.specs.Prelude.{⊤}
use Rattle.std.specs.Io.KnownBytes.{Appends}
use Rattle.own_model.specs.Listed.{Listed}
use Rattle.own_model.specs.LinesOfName.{said_by}
use Rattle.own_model.specs.Text.{lines_of}
use Rattle.own_model.specs.World.{World}
use Rattle.run_devices.specs.RunOutput.{AppendsPart, Tells, OutputsPart}
use Rattle.run_lines.specs.Machine.{world_of}
use Rattle.run_lines.specs.Causes.{HasCause}
use Rattle.run_lines.proofs.CauseLemmas.{cause_unread, cause_unwritten, within_bounds}
use Rattle.run_devices.proofs.GatheredLemmas.{Appends-more, Tells-gathered}
use Rattle.run_lines.proofs.ToldLemmas.{left_none}
use Rattle.run_lines.proofs.PlayLemmas.{none_readable}
use Rattle.run_scenario.proofs.PlayLemmas.{cut_behind}
use Rattle.run_scenario.proofs.PlayedLemmas.{steps_length}
use Rattle.run_scenario.proofs.TallyLemmas.{errors_exact}
use Rattle.run_scenario.specs.Faults.{fault_before, unplayed}
use Rattle.run_lines.specs.Faults.{is_write_fault}
use Rattle.run_scenario.specs.Judging.{Awaited, errors_of, nothing_awaited}
use Rattle.run_scenario.specs.RunCalls.{text_of_calls, text_of_steps}
use Rattle.run_scenario.specs.RunReports.{ReportScope, WritesAllReports, scope_of}
use Rattle.view_diagnostics.specs.Diagnostics.{SubjectAt}
use Rattle.run_scenario.specs.ScenarioRuns.{CountsErrors, RunsAll, TakesMemoryFor, most_lines, tally}
use Rattle.run_lines.specs.LineRuns.{EndsFor, WritesOutput}
use Rattle.run_scenario.specs.LineSteps.{LineStep, calls_in, steps_of}
use Rattle.run_scenario.specs.Writes.{AreAll, Closes, IsRunFrom, IsWrittenBy, RunStart, WritesAfter, WritesBoth, start_at, start_on}
use Rattle.run_scenario.specs.declared.scenario_end.ScenarioEnd.{ScenarioEnd}
use Rattle.run_lines.specs.declared.line_run_fault.LineRunFault.{LineRunFault}
use Rattle.run_lines.specs.declared.line_run_fault.LineRunFault.TheVariants.{ReadFault, WriteFault, TooManyLines, NoMemory}
use Rattle.line_steps.specs.RunPosition.{RunPosition}

-- behind a text that is written a part of another is
part_behind : (w w' w'' : Option (List ℕ)) (told more : List ℕ) → Appends w w' told → AppendsPart w' w'' more → AppendsPart w w'' (told ++ more)
part_behind w w' w'' told more first part = record {
  part = told ++ part.part;
  left = part.left;
  parts = ap (λ text. told ++ text) part.parts ∙ sym (append_assoc told part.part part.left);
  grows = Appends-more w w' w'' told part.part (told ++ part.part) first part.grows refl;
}

-- what is told before a play is written before what it tells
module _ {w w' : Option (List ℕ)} {gathered front : List ℕ} (w'' : Option (List ℕ)) (told : List ℕ) (first : Tells w [] w' gathered front) where
  all_behind : Appends w' w'' (gathered ++ told) → Appends w w'' (front ++ told)
  all_behind then =
      Appends-more w w' w'' first.out (gathered ++ told) (front ++ told) first.grows then
      (ap (λ text. text ++ told) (sym first.parts) ∙ append_assoc first.out gathered told)

  some_behind : AppendsPart w' w'' (gathered ++ told) → AppendsPart w w'' (front ++ told)
  some_behind then =
      subst (AppendsPart w w'') (sym (append_assoc first.out gathered told) ∙ ap (λ text. text ++ told) first.parts)
      (part_behind w w' w'' first.out (gathered ++ told) first.grows then)

  told_behind : (fault : Option LineRunFault) → WritesOutput fault w' w'' (gathered ++ told) → WritesOutput fault w w'' (front ++ told)
  told_behind None then = all_behind then
  told_behind (Some ReadFault) then = all_behind then
  told_behind (Some WriteFault) then = some_behind then
  told_behind (Some TooManyLines) then = all_behind then
  told_behind (Some NoMemory) then = some_behind then

-- so a play behind a front is one that tells it
pub plays_behind : {tells : List (List ℕ) → ℕ → List ℕ → List ℕ} {calls : Bool} {seen : List (List ℕ) → Type 0} {counts : List LineStep → Type 0} {reports : List (List ℕ) → Type 0} {only : Option (List ℕ)} {first : RunPosition} {fault : Option LineRunFault} {count : ℕ} {old new : World}
    {gathered front : List ℕ} {input rest : Option (List ℕ)} {failed : Bool} {w w' w'' : Option (List ℕ)} →
    Tells w [] w' gathered front → RunsAll tells calls seen counts reports only first fault count old new gathered input rest failed w' w'' →
    RunsAll tells calls seen counts reports only first fault count old new front input rest failed w w''
plays_behind {fault = fault} {w'' = w''} begun plays = record {
  given = plays.given;
  readable = plays.readable;
  world = plays.world;
  told = told_behind w'' _ begun fault plays.told;
  ends = plays.ends;
  takes = plays.takes;
  counted = plays.counted;
  complained = plays.complained;
  reported = plays.reported;
  few = plays.few;
  sees = plays.sees;
}

-- of all lines of a text none is answered yet
unplayed_all : (input : Option (List ℕ)) (failed : Bool) → EndsFor most_lines (Some WriteFault) [] input input failed
unplayed_all None failed = tt
unplayed_all (Some text) failed = (lines_of text, refl, (omega arith, record { read = []; left = text; is_left = refl; parts = refl; whole = inl (omega arith) }))

-- a front that can't be told is a fault before any line
pub front_cut : {tells : List (List ℕ) → ℕ → List ℕ → List ℕ} {calls : Bool} {seen : List (List ℕ) → Type 0} {counts : List LineStep → Type 0} {reports : List (List ℕ) → Type 0} {only : Option (List ℕ)} (first : RunPosition) (count : ℕ) (world : World) {gathered front : List ℕ}
    (input : Option (List ℕ)) (failed : Bool) {w w' : Option (List ℕ)} → gathered ≡ [] → OutputsPart w gathered w' front →
    RunsAll tells calls seen counts reports only first (Some WriteFault) count world world front input input failed w w'
front_cut {only = only} first count world {front = front} input failed none part = record {
  given = [];
  readable = none_readable;
  world = sym (left_none only world);
  told = record {
    part = part.1.out;
    left = part.0;
    parts = append-nil front ∙ sym (part.1.parts ∙ ap (λ g. g ++ front) none);
    grows = part.1.grows;
  };
  ends = unplayed_all input failed;
  takes = tt;
  counted = tt;
  complained = tt;
  reported = tt;
  few = omega arith;
  sees = tt;
}

-- ---- what stands behind a play

-- where nothing is written behind a play
pub closes_alone : (ending : ScenarioEnd) (w : Option (List ℕ)) → Closes ending ending w w []
closes_alone ending w = record { lines = refl; complaints = refl; writes = alone ending.fault w }
  where
    none : (o : Option (List ℕ)) → Appends o o []
    none None = tt
    none (Some text) = sym (append-nil text)

    alone : (f : Option LineRunFault) (o : Option (List ℕ)) → WritesAfter f f o o []
    alone None o = none o
    alone (Some fault) o = (refl, refl)

-- all lines were played
all_lines : (input rest : Option (List ℕ)) (lines : List (List ℕ)) (failed : Bool) → EndsFor most_lines None lines input rest failed → IfSome input (AreAll lines)
all_lines None rest lines failed ends = tt
all_lines (Some text) rest lines failed ends = ends.1 ∙ ap (λ left. lines ++ left) ends.2.0 ∙ append-nil lines

-- what a play wrote is written where nothing more is
writes_alone : (fault : LineRunFault) (input : Option (List ℕ)) (lines : List (List ℕ)) (w w' : Option (List ℕ)) (told behind : List ℕ) → WritesOutput (Some fault) w w' told → WritesBoth (Some fault) input lines w w' told behind
writes_alone ReadFault input lines w w' told behind first = first
writes_alone WriteFault input lines w w' told behind first = inl first
writes_alone TooManyLines input lines w w' told behind first = first
writes_alone NoMemory input lines w w' told behind first = first

writes_both : (f f' : Option LineRunFault) (input rest : Option (List ℕ)) (lines : List (List ℕ)) (failed : Bool) (w w' w'' : Option (List ℕ)) (told behind : List ℕ) →
    EndsFor most_lines f lines input rest failed → WritesOutput f w w' told → WritesAfter f f' w' w'' behind → WritesBoth f' input lines w w'' told behind
writes_both None None input rest lines failed w w' w'' told behind ends first then = Appends-more w w' w'' told behind (told ++ behind) first then refl
writes_both None (Some fault) input rest lines failed w w' w'' told behind ends first then =
    rw then.0 (inr (all_lines input rest lines failed ends, part_behind w w' w'' told behind first then.1))
writes_both (Some fault) f' input rest lines failed w w' w'' told behind ends first then = rw (then.0, then.1) (writes_alone fault input lines w w' told behind first)

-- why it ended
ends_both : (f f' : Option LineRunFault) (input rest : Option (List ℕ)) (lines : List (List ℕ)) (failed : Bool) (w w' : Option (List ℕ)) (behind : List ℕ) → length lines ≤ most_lines →
    EndsFor most_lines f lines input rest failed → WritesAfter f f' w w' behind → EndsFor most_lines f' lines input rest failed
ends_both None None input rest lines failed w w' behind few ends after = ends
ends_both None (Some fault) input rest lines failed w w' behind few ends after = rw after.0 (cut_behind input rest lines failed few ends)
ends_both (Some fault) f' input rest lines failed w w' behind few ends after = rw after.0 ends

takes_both : (calls : Bool) (f f' : Option LineRunFault) (steps : List LineStep) (w w' : Option (List ℕ)) (behind : List ℕ) → TakesMemoryFor calls f steps → WritesAfter f f' w w' behind → TakesMemoryFor calls f' steps
takes_both calls None None steps w w' behind takes after = tt
takes_both calls None (Some fault) steps w w' behind takes after = rw after.0 tt
takes_both calls (Some fault) f' steps w w' behind takes after = rw after.0 takes

-- how many lines there were
counted_still : (f f' : Option LineRunFault) (count count' : ℕ) (w w' : Option (List ℕ)) (behind : List ℕ) (n : ℕ) →
    IfNone f (count ≡ n) → count' ≡ count → WritesAfter f f' w w' behind → IfNone f' (count' ≡ n)
counted_still None None count count' w w' behind n is same after = same ∙ is
counted_still None (Some fault) count count' w w' behind n is same after = tt
counted_still (Some fault) f' count count' w w' behind n is same after = rw after.0 tt

-- what was reported
reported_still : (f f' : Option LineRunFault) (w w' : Option (List ℕ)) (behind : List ℕ) (A : Type 0) → IfNone f A → WritesAfter f f' w w' behind → IfNone f' A
reported_still None None w w' behind A reported after = reported
reported_still None (Some fault) w w' behind A reported after = tt
reported_still (Some fault) f' w w' behind A reported after = rw after.0 tt

-- how many errors there were
errors_are : (list : Listed) (only : Option (List ℕ)) (start : World) (first : RunPosition) (awaited : Awaited) (lines : List (List ℕ)) (errors : ℕ) → length lines ≤ most_lines →
    (f : Option LineRunFault) → IfNone f (CountsErrors list only start (tally 0 awaited) errors (steps_of only start first lines)) →
    IfNone f (errors ≡ errors_of list only start awaited (steps_of only start first lines))
errors_are list only start first awaited lines errors few None counts =
    errors_exact list only start awaited (steps_of only start first lines) errors (omega (arith, few, steps_length only start first lines)) counts
errors_are list only start first awaited lines errors few (Some fault) counts = tt

-- what a play wrote and what was written behind it
pub played_from : {list : Listed} {told behind : List LineStep → List ℕ} {calls : Bool} {tells : List (List ℕ) → ℕ → List ℕ → List ℕ} {seen reports : List (List ℕ) → Type 0} {only : Option (List ℕ)} {first : RunPosition} {start last : World}
    {awaited : Awaited}
    {front : List ℕ} {input rest w w' w'' : Option (List ℕ)} {failed : Bool} (played ended : ScenarioEnd)
    (plays : RunsAll tells calls seen (CountsErrors list only start (tally 0 awaited) played.complaints) reports only first played.fault played.lines start last front input rest failed w w') →
    front ++ text_of_steps tells only [] (steps_of only start first plays.given) ≡ told (steps_of only start first plays.given) →
    Closes played ended w' w'' (behind (steps_of only start first plays.given)) → IsRunFrom (start_at list only start first awaited) told behind calls reports ended input rest failed w w''
played_from {list = list} {told = told} {behind = behind} {calls = calls} {reports = reports} {only = only} {first = first} {start = start} {awaited = awaited} {input = input} {rest = rest} {w = w} {w' = w'} {w'' = w''} {failed = failed} played ended plays same closes =
    let steps = steps_of only start first plays.given in
    record {
      given = plays.given;
      readable = plays.readable;
      ends = ends_both played.fault ended.fault input rest plays.given failed w' w'' (behind steps) plays.few plays.ends closes.writes;
      takes = takes_both calls played.fault ended.fault steps w' w'' (behind steps) plays.takes closes.writes;
      counted = counted_still played.fault ended.fault played.lines ended.lines w' w'' (behind steps) (length plays.given) plays.counted closes.lines closes.writes;
      complained =
          counted_still played.fault ended.fault played.complaints ended.complaints w' w'' (behind steps) (errors_of list only start awaited steps)
          (errors_are list only start first awaited plays.given played.complaints plays.few played.fault plays.complained) closes.complaints closes.writes;
      reported = reported_still played.fault ended.fault w' w'' (behind steps) (reports plays.given) plays.reported closes.writes;
      writes =
          writes_both played.fault ended.fault input rest plays.given failed w w' w'' (told steps) (behind steps) plays.ends
          (subst (WritesOutput played.fault w w') same plays.told) closes.writes;
    }

-- on the machine of a list
pub played_on : (listed : Listed) {calls : Bool} (only : Option (List ℕ)) (first : RunPosition) (told behind : World → List LineStep → List ℕ) (ending : ScenarioEnd) {start : World} {begun : RunPosition}
    {awaited : Awaited} {subject noted : SubjectAt} {list : Listed} (e e' : Option (List ℕ)) (input rest : Option (List ℕ)) (failed : Bool) (w w' : Option (List ℕ)) →
    start ≡ world_of listed → begun ≡ first → awaited ≡ nothing_awaited → noted ≡ subject →
    IsRunFrom (start_at listed only start begun awaited) (told start) (behind start) calls (WritesAllReports (scope_of noted list) (start_at listed only start begun awaited) e e') ending input rest failed w w' →
    IsRunFrom (start_on only first listed) (told (world_of listed)) (behind (world_of listed)) calls (WritesAllReports (scope_of subject list) (start_on only first listed) e e') ending input rest failed w w'
played_on listed {calls = calls} only first told behind ending {start = start} {begun = begun} {awaited = awaited} {subject = subject} {noted = noted} {list = list} e e' input rest failed w w' starts begins none about played =
    subst (λ s. IsRunFrom (start_on only first listed) (told (world_of listed)) (behind (world_of listed)) calls (WritesAllReports (scope_of s list) (start_on only first listed) e e') ending input rest failed w w') about
    (subst (λ world. IsRunFrom (start_at listed only world first nothing_awaited) (told world) (behind world) calls (WritesAllReports (scope_of noted list) (start_at listed only world first nothing_awaited) e e') ending input rest failed w w') starts
    (subst (λ position. IsRunFrom (start_at listed only start position nothing_awaited) (told start) (behind start) calls (WritesAllReports (scope_of noted list) (start_at listed only start position nothing_awaited) e e') ending input rest failed w w') begins
    (subst (λ expected. IsRunFrom (start_at listed only start begun expected) (told start) (behind start) calls (WritesAllReports (scope_of noted list) (start_at listed only start begun expected) e e') ending input rest failed w w') none played)))

-- what the errors hold is what they hold at the end
pub reported_at : {start first : RunStart} {told behind : List LineStep → List ℕ} {calls : Bool} {scope : ReportScope} {e e1 e2 : Option (List ℕ)} {ending : ScenarioEnd} {input rest : Option (List ℕ)} {failed : Bool} {w w' : Option (List ℕ)} →
    IsRunFrom start told behind calls (WritesAllReports scope first e e1) ending input rest failed w w' → e2 ≡ e1 → IsRunFrom start told behind calls (WritesAllReports scope first e e2) ending input rest failed w w'
reported_at {start = start} {first = first} {told = told} {behind = behind} {calls = calls} {scope = scope} {e = e} {ending = ending} {input = input} {rest = rest} {failed = failed} {w = w} {w' = w'} played same =
    subst (λ held. IsRunFrom start told behind calls (WritesAllReports scope first e held) ending input rest failed w w') (sym same) played

-- ---- within the bounds, and with no failed device, only want of room is a cause to stop
pub caused : {start : RunStart} {told behind : List LineStep → List ℕ} {calls : Bool} {reports : List (List ℕ) → Type 0} {ending : ScenarioEnd} {input rest : Option (List ℕ)} {failed : Bool} {w w' : Option (List ℕ)} (write_failed : Bool) →
    IsRunFrom start told behind calls reports ending input rest failed w w' → write_failed ≡ is_write_fault ending.fault →
    IfSome ending.fault (λ fault. fault ≢ NoMemory → IfSome input (λ text. HasCause text most_lines failed write_failed))
caused {ending = ending} {input = input} {rest = rest} {failed = failed} write_failed played fails = of ending.fault input played.ends fails
  where
    of : (f : Option LineRunFault) (o : Option (List ℕ)) → EndsFor most_lines f played.given o rest failed → write_failed ≡ is_write_fault f → IfSome f (λ fault. fault ≢ NoMemory → IfSome o (λ text. HasCause text most_lines failed write_failed))
    of None o ends is = tt
    of (Some fault) None ends is = λ other. tt
    of (Some fault) (Some text) ends is = λ other. within_bounds fault most_lines played.given ends.0 text rest failed write_failed ends.1 ends.2 is other

-- or a device had failed before
pub ends_for_some_cause : {X : Type 0} {start : RunStart} {told : List LineStep → List ℕ} {behind : X → List LineStep → List ℕ} {calls : Bool} {reports : List (List ℕ) → Type 0} {ending : ScenarioEnd} {input rest : Option (List ℕ)} {failed : Bool} {w w' : Option (List ℕ)} (read_before write_before write_failed : Bool) →
    (fault_before read_before write_before ≡ None → (x : X) × IsRunFrom start told (behind x) calls reports ending input rest failed w w') →
    IfSome (fault_before read_before write_before) (λ fault. (ending ≡ unplayed fault) × (failed ≡ read_before)) → write_failed ≡ is_write_fault ending.fault →
    IfSome ending.fault (λ fault. fault ≢ NoMemory → IfSome input (λ text. HasCause text most_lines failed write_failed))
ends_for_some_cause false false write_failed played before fails = caused write_failed (played refl).1 fails
ends_for_some_cause {input = input} {failed = failed} true false write_failed played before fails = rw before.0 (λ other. cause_unread input most_lines failed write_failed before.1)
ends_for_some_cause {input = input} {failed = failed} read_before true write_failed played before fails =
    let is : write_failed ≡ true = fails ∙ ap (λ (e : ScenarioEnd). is_write_fault e.fault) before.0 in
    rw before.0 (λ other. cause_unwritten input most_lines failed write_failed is)

-- where what stands behind it is known
pub ends_for_cause : {start : RunStart} {told behind : List LineStep → List ℕ} {calls : Bool} {reports : List (List ℕ) → Type 0} {ending : ScenarioEnd} {input rest : Option (List ℕ)} {failed : Bool} {w w' : Option (List ℕ)} (read_before write_before write_failed : Bool) →
    (fault_before read_before write_before ≡ None → IsRunFrom start told behind calls reports ending input rest failed w w') →
    IfSome (fault_before read_before write_before) (λ fault. (ending ≡ unplayed fault) × (failed ≡ read_before)) → write_failed ≡ is_write_fault ending.fault →
    IfSome ending.fault (λ fault. fault ≢ NoMemory → IfSome input (λ text. HasCause text most_lines failed write_failed))
ends_for_cause {behind = behind} read_before write_before write_failed played =
    ends_for_some_cause {X = ⊤} {behind = λ _. behind} read_before write_before write_failed (λ works. (tt, played works))

-- what is known of that by one device
pub unplayed_with : (ending : ScenarioEnd) (B C D E : Type 0) (o : Option LineRunFault) → (B → E) → IfSome o (λ fault. (ending ≡ unplayed fault) × B × C × D) → IfSome o (λ fault. (ending ≡ unplayed fault) × E)
unplayed_with ending B C D E None seen before = tt
unplayed_with ending B C D E (Some fault) seen before = (before.0, seen before.1)

-- a fault before anything is told loses all of it
pub lost_all : (w : Option (List ℕ)) (g text : List ℕ) → OutputsPart w g w text
lost_all w g text = (g ++ text, Tells-gathered w g (g ++ text) text refl)

-- a fault that is handed on leaves a part
pub written_err : {T : Type 0} (r : Result T LineRunFault) (w w' : Option (List ℕ)) (text : List ℕ) → IsErrAnd r (λ fault. fault ≡ WriteFault) → AppendsPart w w' text → IsWrittenBy r w w' text
written_err (Ok done) w w' text is part = absurd is
written_err (Err fault) w w' text is part = (is, part)

-- what is written behind a play that stopped is of no matter
pub closes_as : (played ended : ScenarioEnd) (w w' : Option (List ℕ)) (a b : List ℕ) → IfNone played.fault (a ≡ b) → Closes played ended w w' a → Closes played ended w w' b
closes_as played ended w w' a b same closes = record { lines = closes.lines; complaints = closes.complaints; writes = writes played.fault ended.fault same closes.writes }
  where
    writes : (f f' : Option LineRunFault) → IfNone f (a ≡ b) → WritesAfter f f' w w' a → WritesAfter f f' w w' b
    writes None f' is after = subst (WritesAfter None f' w w') is after
    writes (Some fault) f' is after = after

-- nothing is told of lines
silent_calls : (earlier : List (List ℕ)) (number : ℕ) (calls : List (List ℕ)) → text_of_calls (λ _ _ _. []) earlier number calls ≡ []
silent_calls earlier number [] = refl
silent_calls earlier number (call ∷ calls) = silent_calls (earlier ++ call ∷ []) number calls

pub silent_steps : (only : Option (List ℕ)) (earlier : List (List ℕ)) (steps : List LineStep) → text_of_steps (λ _ _ _. []) only earlier steps ≡ []
silent_steps only earlier [] = refl
silent_steps only earlier (step ∷ steps) =
    ap (λ text. text ++ text_of_steps (λ _ _ _. []) only (earlier ++ said_by only (calls_in step.resolved)) steps) (silent_calls earlier step.number (said_by only (calls_in step.resolved)))
    ∙ silent_steps only (earlier ++ said_by only (calls_in step.resolved)) steps
