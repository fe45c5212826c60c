-- What each command writes, from what its play promises.
use Rattle.std.proofs.Common.{◌≡◌, ℕ, ◌≤◌, List, [], ◌∷◌, ◌++◌, Bool, true, false, length, Option, Some, None, IfNone, arith, refl, sym, ◌∙◌, ap, subst, append-nil, length-append}
use Rattle.std.proofs.lemmas.Bool.Decides.{nat_tests}
use Rattle.std.proofs.lemmas.Option.{none-some}
use Rattle.std.specs.Prelude.{IfSome}
use Rattle.std.specs.List.{filter}
use Rattle.own_model.specs.LinesOfName.{is_line_of}
use Rattle.own_model.specs.Listed.{Listed}
use Rattle.own_model.specs.World.{World}
use Rattle.line_steps.specs.ResolvedLines.{ResolvedLine}
use Rattle.line_steps.specs.ResolvedLines.ResolvedLine.{TooLong, Skipped, BadName, Follow, Misplaced, Nothing, Log, Call, BadLine}
use Rattle.run_lines.specs.LineRuns.{EndsFor}
use Rattle.run_lines.specs.Machine.{accounts_for, world_of}
use Rattle.view_runs.specs.Alone.{CountsAlone, SeesAlone, alone_sum, alone_call_text}
use Rattle.run_scenario.specs.Judging.{Awaited, nothing_awaited}
use Rattle.run_scenario.specs.RunCalls.{calls_answered, calls_of_steps, text_of_steps}
use Rattle.run_scenario.specs.ScenarioRuns.{CountsErrors, RunsAll, most_lines, tally}
use Rattle.view_runs.specs.Tracing.{TraceRow, trace_call_text}
use Rattle.run_scenario.specs.LineSteps.{LineStep, calls_in, steps_of}
use Rattle.run_scenario.specs.Writes.{AreAll, Closes, IsRunFrom, RunStart, WritesAfter, start_at, start_on}
use Rattle.view_runs.specs.Transcripts.{list_behind, text_of_run_call, shown_of}
use Rattle.run_scenario.specs.declared.scenario_end.ScenarioEnd.{ScenarioEnd}
use Rattle.run_lines.specs.declared.line_run_fault.LineRunFault.{LineRunFault}
use Rattle.line_steps.specs.RunPosition.{RunPosition}
use Rattle.run_scenario.proofs.PlayedLemmas.{told_as_engine, steps_length}
use Rattle.run_scenario.proofs.TallyLemmas.{errors_exact}
use Rattle.run_scenario.proofs.WriteLemmas.{closes_alone, closes_as, played_from}

-- what is told, and the account list behind it where it is asked for
pub run_played : (numbers accounts : Bool) (only : Option (List ℕ)) (listed : Listed) {first : RunPosition} {seen reports : List (List ℕ) → Type 0} {start last : World} {awaited : Awaited} {input rest w w' w'' : Option (List ℕ)} {failed : Bool} (played ended : ScenarioEnd) →
    RunsAll (text_of_run_call numbers start) false seen (CountsErrors listed only start (tally 0 awaited) played.complaints) reports only first played.fault played.lines start last [] input rest failed w w' → Closes played ended w' w'' (accounts_for accounts listed last) →
    IsRunFrom (start_at listed only start first awaited) (shown_of numbers only start) (list_behind accounts only listed start) false reports ended input rest failed w w''
run_played true accounts only listed {w' = w'} {w'' = w''} played ended plays closes =
    played_from played ended plays refl (subst (λ world. Closes played ended w' w'' (accounts_for accounts listed world)) plays.world closes)
run_played false accounts only listed {first = first} {start = start} {w' = w'} {w'' = w''} played ended plays closes =
    played_from played ended plays (told_as_engine only start (steps_of only start first plays.given))
    (subst (λ world. Closes played ended w' w'' (accounts_for accounts listed world)) plays.world closes)

-- the rows of a trace, after the text before them
pub trace_played : (front : List ℕ) (row_text : TraceRow → List ℕ) (takes : Bool) {list : Listed} {first : RunPosition} {seen reports : List (List ℕ) → Type 0} {start last : World} {awaited : Awaited} {input rest w w' : Option (List ℕ)} {failed : Bool} (ending : ScenarioEnd) {header : List ℕ} → header ≡ front →
    RunsAll (trace_call_text row_text start) takes seen (CountsErrors list None start (tally 0 awaited) ending.complaints) reports None first ending.fault ending.lines start last header input rest failed w w' →
    IsRunFrom (start_at list None start first awaited) (λ steps. front ++ text_of_steps (trace_call_text row_text start) None [] steps) (λ _. []) takes reports ending input rest failed w w'
trace_played front row_text takes {first = first} {start = start} {w' = w'} ending is plays =
    played_from ending ending plays (ap (λ text. text ++ text_of_steps (trace_call_text row_text start) None [] (steps_of None start first plays.given)) is) (closes_alone ending w')

-- ---- one name alone

-- a filter leaves no more
filter_few : {X : Type 0} (p : X → Bool) (xs : List X) → length (filter p xs) ≤ length xs
filter_few p [] = omega arith
filter_few p (x ∷ xs) = grind (arith, nat_tests, filter_few p xs)

-- a line says one call at most
one_in : (resolved : ResolvedLine) → length (calls_in resolved) ≤ 1
one_in TooLong = omega arith
one_in Skipped = omega arith
one_in (BadName fault) = omega arith
one_in (Follow directive) = omega arith
one_in (Misplaced column why) = omega arith
one_in Nothing = omega arith
one_in (Log text) = omega arith
one_in (Call filled line reply) = omega arith
one_in (BadLine fault) = omega arith

-- so there are no more calls than turns, and as many of these as lines
few_calls : (steps : List LineStep) → length (calls_of_steps steps) ≤ length steps
few_calls [] = omega arith
few_calls (step ∷ steps) = omega (arith, few_calls steps, one_in step.resolved, length-append (calls_in step.resolved) (calls_of_steps steps))

pub few_of_name : (name : List ℕ) (world : World) (position : RunPosition) (lines : List (List ℕ)) → length (calls_answered (Some name) (steps_of None world position lines)) ≤ length lines
few_of_name name world position lines =
    omega (arith, filter_few (is_line_of name) (calls_of_steps (steps_of None world position lines)), few_calls (steps_of None world position lines), steps_length None world position lines)

pub alone_played : (name : List ℕ) {list : Listed} {reports : List (List ℕ) → Type 0} {first : RunPosition} {start last core : World} {awaited : Awaited} {count : ℕ} {difference : Option ℕ} {input rest w w' w'' : Option (List ℕ)} {failed : Bool} (played ended : ScenarioEnd) → played.lines ≤ 1000000 →
    RunsAll (alone_call_text name start) false (SeesAlone name core count difference start) (CountsErrors list None start (tally 0 awaited) played.complaints) reports None first played.fault played.lines start last [] input rest failed w w' →
    Closes played ended w' w'' (alone_sum name count) →
    IsRunFrom (start_at list None start first awaited) (λ steps. text_of_steps (alone_call_text name start) None [] steps) (λ steps. alone_sum name (length (calls_answered (Some name) steps))) false reports ended input rest failed w w''
alone_played name {first = first} {start = start} {core = core} {count = count} {difference = difference} {w' = w'} {w'' = w''} played ended few plays closes =
    played_from played ended plays refl (closes_as played ended w' w'' _ _ (same played.fault plays.counted plays.sees) closes)
  where
    steps : List LineStep
    steps = steps_of None start first plays.given

    same : (f : Option LineRunFault) → IfNone f (played.lines ≡ length plays.given) → IfNone f (SeesAlone name core count difference start (calls_answered None steps)) →
        IfNone f (alone_sum name count ≡ alone_sum name (length (calls_answered (Some name) steps)))
    same None counted sees = ap (alone_sum name) (sees.counted (omega (arith, few, counted, few_of_name name start first plays.given)))
    same (Some fault) counted sees = tt

-- the errors of the lines, and how many calls of the name they make
pub alone_counts : (name : List ℕ) (list : Listed) {reports : List (List ℕ) → Type 0} {first : RunPosition} {start last core : World} (awaited : Awaited) {count : ℕ} {difference : Option ℕ} {input rest w w' w'' : Option (List ℕ)} {failed : Bool} (played ended : ScenarioEnd) → played.lines ≤ 1000000 →
    RunsAll (alone_call_text name start) false (SeesAlone name core count difference start) (CountsErrors list None start (tally 0 awaited) played.complaints) reports None first played.fault played.lines start last [] input rest failed w w' →
    Closes played ended w' w'' (alone_sum name count) →
    IfNone ended.fault (CountsAlone name (start_at list None start first awaited) input ended.complaints count)
alone_counts name list {first = first} {start = start} {core = core} awaited {count = count} {difference = difference} {input = input} {rest = rest} {w' = w'} {w'' = w''} {failed = failed} played ended few plays closes =
    by played.fault ended.fault plays.ends plays.counted plays.complained plays.sees closes.writes
  where
    steps : List LineStep
    steps = steps_of None start first plays.given

    all : (o : Option (List ℕ)) → EndsFor most_lines None plays.given o rest failed → IfSome o (AreAll plays.given)
    all None ends = tt
    all (Some text) ends = ends.1 ∙ ap (λ left. plays.given ++ left) ends.2.0 ∙ append-nil plays.given

    by : (f f' : Option LineRunFault) → EndsFor most_lines f plays.given input rest failed → IfNone f (played.lines ≡ length plays.given) →
        IfNone f (CountsErrors list None start (tally 0 awaited) played.complaints steps) → IfNone f (SeesAlone name core count difference start (calls_answered None steps)) →
        WritesAfter f f' w' w'' (alone_sum name count) → IfNone f' (CountsAlone name (start_at list None start first awaited) input ended.complaints count)
    by None None ends counted errors sees writes = record {
      given = plays.given;
      all = all input ends;
      complained = closes.complaints ∙ errors_exact list None start awaited steps played.complaints (omega (arith, plays.few, steps_length None start first plays.given)) errors;
      counted = sees.counted (omega (arith, few, counted, few_of_name name start first plays.given));
    }
    by (Some fault) None ends counted errors sees writes = absurd (none-some fault writes.0)
    by f (Some fault) ends counted errors sees writes = tt

-- and on the machine of a list
pub alone_counts_on : (name : List ℕ) (listed : Listed) (first : RunPosition) (fault : Option LineRunFault) (errors count : ℕ) {start : World} {begun : RunPosition} {awaited : Awaited} (input : Option (List ℕ)) →
    start ≡ world_of listed → begun ≡ first → awaited ≡ nothing_awaited → IfNone fault (CountsAlone name (start_at listed None start begun awaited) input errors count) →
    IfNone fault (CountsAlone name (start_on None first listed) input errors count)
alone_counts_on name listed first fault errors count input starts begins none counts =
    subst (λ (s : RunStart). IfNone fault (CountsAlone name s input errors count)) (λ i. start_at listed None (starts i) (begins i) (none i)) counts

-- it differs nowhere
pub alone_same : (fault : Option LineRunFault) (name : List ℕ) (start core : World) (count : ℕ) (difference : Option ℕ) (lines : List (List ℕ)) →
    IfNone fault (SeesAlone name core count difference start lines) → IfNone fault (difference ≡ None)
alone_same None name start core count difference lines sees = sees.alike
alone_same (Some fault) name start core count difference lines sees = tt

-- where the sum is written too, the play came to its end
pub same_behind : (played ended : ScenarioEnd) (difference : Option ℕ) (w w' : Option (List ℕ)) {text : List ℕ} → Closes played ended w w' text → IfNone played.fault (difference ≡ None) → IfNone ended.fault (difference ≡ None)
same_behind played ended difference w w' {text = text} closes same = behind played.fault ended.fault closes.writes same
  where
    behind : (f f' : Option LineRunFault) → WritesAfter f f' w w' text → IfNone f (difference ≡ None) → IfNone f' (difference ≡ None)
    behind None None after same = same
    behind None (Some fault) after same = tt
    behind (Some fault) f' after same = subst (λ t. IfNone t (difference ≡ None)) (sym after.0) tt
