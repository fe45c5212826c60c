-- A play from line to line: what was played, and what it leaves at its end.
use Rattle.std.proofs.Common.{◌≡◌, ◌||◌, ℕ, ◌≤◌, List, [], ◌∷◌, ◌++◌, length, Option, Some, None, IfNone, Result, Ok, Err, IfOk, OnOk, is_some, Bool, true, false, ⊎_elim, refl, sym, ◌∙◌, ap, subst, append-nil}
use Rattle.std.proofs.lemmas.Bool.{or_from, or_parts}
use Rattle.std.specs.Result.{result_err}
use Rattle.std.specs.Io.KnownBytes.{Appends}
use Rattle.own_model.specs.Listed.{Listed}
use Rattle.own_model.specs.LinesOfName.{said_by}
use Rattle.own_model.specs.StartList.{Entry}
use Rattle.own_model.specs.World.{World}
use Rattle.run_lines.specs.Answered.{after_all}
use Rattle.run_lines.specs.Faults.{Fails, is_write_fault}
use Rattle.run_devices.specs.RunOutput.{OutputsUnless}
use Rattle.run_lines.specs.LineRuns.{EndsAs, EndsFor, Continues, PlaysAll as PlaysLines, HandlesLine}
use Rattle.run_lines.specs.declared.line_run_fault.LineRunFault.{LineRunFault}
use Rattle.run_lines.specs.declared.line_run_fault.LineRunFault.TheVariants.{ReadFault, WriteFault, TooManyLines, NoMemory}
use Rattle.run_lines.proofs.ToldLemmas.{left_none, said_none}
use Rattle.run_scenario.specs.Faults.{takes_memory}
use Rattle.run_scenario.specs.RunCalls.{calls_answered, calls_of_steps, text_of_calls, text_of_steps}
use Rattle.run_scenario.specs.ScenarioRuns.{ClosesAs, CountsErrors, CountsOne, LeadsSteps, RunsAll, RunsLine, Point, Remains, StopsSteps, TakesMemoryFor, Tallies, Tally, counted, most_lines, tally}
use Rattle.run_scenario.specs.Judging.{Awaited, awaited_after, awaited_behind, has_error}
use Rattle.run_scenario.specs.Reports.{left_over_report}
use Rattle.run_scenario.specs.RunReports.{ReportScope, ReportsLine, WritesAllReports, WritesReports, scope_of}
use Rattle.run_scenario.specs.Writes.{start_at}
use Rattle.view_diagnostics.specs.Diagnostics.{SubjectAt}
use Rattle.run_scenario.specs.LineSteps.{LineStep, call_of, is_meant_line, left_behind, next_position, resolved_at, position_behind, step_of, steps_of}
use Rattle.run_scenario.specs.Observation.{Watches}
use Rattle.line_steps.specs.RunPosition.{RunPosition, crosses}
use Rattle.run_scenario.proofs.RunReportLemmas.{reports_closed, reports_more}
use Rattle.run_scenario.proofs.TallyLemmas.{errors_counted, tallies_more, tallies_none}
use Rattle.run_scenario.proofs.PlayedLemmas.{answered_more, answered-one, calls_of_steps-one, left_more, position_more, told_more, text_of_steps-one, more_steps}

-- ---- one line behind others

-- what a line fails for, once it is counted
pub counted_fails : (judged : Result Bool LineRunFault) (failed takes : Bool) → Fails judged failed takes → Fails (counted judged) failed true
counted_fails (Ok complained) failed takes fails = fails
counted_fails (Err ReadFault) failed takes fails = fails
counted_fails (Err WriteFault) failed takes fails = fails
counted_fails (Err TooManyLines) failed takes fails = fails
counted_fails (Err NoMemory) failed takes fails = (fails.0, refl)

-- what holds behind a line holds where the play goes on
pub ready_next : {A : Type 0} (judged : Result Bool LineRunFault) → A → OnOk (counted judged) A
ready_next (Ok complained) a = a
ready_next (Err fault) a = tt

-- how a line's error is found and counted, unless there is a fault
record StepsTallyAt (list : Listed) (only : Option (List ℕ)) (mid : World) (position : RunPosition) (line : List ℕ) (now next : Tally) (error : Bool) : Type 0 where
  judged : error ≡ has_error list only mid (is_meant_line line) (resolved_at only position line) now.awaited
  expects : next.awaited ≡ awaited_after position.number (resolved_at only position line) now.awaited
  counts : CountsOne error now.errors next.errors

abbrev StepsTally : Listed → Option (List ℕ) → World → RunPosition → List ℕ → Tally → Tally → Result Bool LineRunFault → Type 0
StepsTally list only mid position line now next judged = IfOk judged (StepsTallyAt list only mid position line now next)

module _ (list : Listed) (only : Option (List ℕ)) (start mid : World) (first position : RunPosition) (xs : List (List ℕ)) (line : List ℕ)
    (left : mid ≡ after_all only start (calls_of_steps (steps_of only start first xs))) (stands : position ≡ position_behind only start first xs) where
  abbrev earlier : List (List ℕ)
  earlier = calls_answered only (steps_of only start first xs)

  world_next : (last : World) → last ≡ left_behind only mid position line → last ≡ after_all only start (calls_of_steps (steps_of only start first (xs ++ line ∷ [])))
  world_next last then = left_more only start mid first position xs (line ∷ []) left stands last (then ∙ ap (after_all only mid) (sym (calls_of_steps-one (step_of only position line))))

  seen_next : (seen : List (List ℕ) → Type 0) → seen (earlier ++ said_by only (call_of only position line)) → seen (calls_answered only (steps_of only start first (xs ++ line ∷ [])))
  seen_next seen sees =
      subst seen (ap (λ calls. earlier ++ calls) (sym (answered-one only (step_of only position line))) ∙ answered_more only start mid first position xs (line ∷ []) left stands []) sees

  -- and its error is counted after theirs
  tallied : (begun now next : Tally) (judged : Result Bool LineRunFault) → Tallies list only start begun now (steps_of only start first xs) → StepsTally list only mid position line now next judged →
      OnOk judged (Tallies list only start begun next (steps_of only start first (xs ++ line ∷ [])))
  tallied begun now next (Ok error) led steps =
      subst (Tallies list only start begun next) (more_steps only start mid first position xs (line ∷ []) left stands)
      (tallies_more list only start mid begun now next (steps_of only start first xs) (step_of only position line) error left led steps.judged steps.expects steps.counts)
  tallied begun now next (Err fault) led steps = tt

  goes_on : {A : Type 0} (calls : Bool) (reports seen : List (List ℕ) → Type 0) (last : World) (next : RunPosition) (begun then : Tally) (judged : Result Bool LineRunFault) (write_failed : Bool) → A → last ≡ left_behind only mid position line →
      OnOk judged (seen (earlier ++ said_by only (call_of only position line))) → OnOk judged (next ≡ next_position only mid position line) →
      OnOk judged (Tallies list only start begun then (steps_of only start first (xs ++ line ∷ []))) → OnOk judged (reports (xs ++ line ∷ [])) → Fails judged write_failed (takes_memory calls (resolved_at only position line) || crosses position) →
      Continues (λ lines. A × LeadsSteps list only start last first next begun then reports seen lines) (λ fault lines. A × StopsSteps calls only start last first fault lines) (xs ++ line ∷ []) (counted judged)
  goes_on calls reports seen last next begun then (Ok complained) write_failed a world sees after tallies reported fails = (
    a,
    record {
      world_is = world_next last world;
      stands = after ∙ position_more only start mid first position xs (line ∷ []) left stands;
      tallies = tallies;
      reported = reported;
      sees = seen_next seen sees;
    },
  )
  goes_on calls reports seen last next begun then (Err ReadFault) write_failed a world sees after tallies reported fails = absurd fails
  goes_on calls reports seen last next begun then (Err WriteFault) write_failed a world sees after tallies reported fails = (a, record { world_is = world_next last world; takes = tt })
  goes_on calls reports seen last next begun then (Err TooManyLines) write_failed a world sees after tallies reported fails = absurd fails
  goes_on calls reports seen last next begun then (Err NoMemory) write_failed a world sees after tallies reported fails = (
    a,
    record {
      world_is = world_next last world;
      takes = (steps_of only start first xs, step_of only position line, sym (more_steps only start mid first position xs (line ∷ []) left stands), fails.1);
    },
  )

  -- what is told of it is told behind what was told of those, and it leads on
  pub bench_plays : {A : Type 0} (tells : List (List ℕ) → ℕ → List ℕ → List ℕ) (calls : Bool) (reports seen : List (List ℕ) → Type 0) (last : World) (next : RunPosition) (begun then : Tally) (judged : Result Bool LineRunFault) (write_failed : Bool) (w w' : Option (List ℕ)) (g g' : List ℕ) → A →
      last ≡ left_behind only mid position line → OutputsUnless judged w g w' g' (text_of_calls tells earlier position.number (said_by only (call_of only position line))) →
      OnOk judged (seen (earlier ++ said_by only (call_of only position line))) → OnOk judged (next ≡ next_position only mid position line) →
      OnOk judged (Tallies list only start begun then (steps_of only start first (xs ++ line ∷ []))) → OnOk judged (reports (xs ++ line ∷ [])) → Fails judged write_failed (takes_memory calls (resolved_at only position line) || crosses position) →
      HandlesLine (λ lines. text_of_steps tells only [] (steps_of only start first lines)) (λ lines. A × LeadsSteps list only start last first next begun then reports seen lines) (λ fault lines. A × StopsSteps calls only start last first fault lines) xs line (counted judged) w g w' g'
  bench_plays tells calls reports seen last next begun then judged write_failed w w' g g' a world told sees after tallies reported fails = record {
    piece = text_of_steps tells only earlier (step_of only position line ∷ []);
    more = sym (told_more only tells start mid first position [] xs (line ∷ []) left stands);
    tells = tells_counted _ judged (subst (OutputsUnless judged w g w' g') (text_of_steps-one only tells earlier (step_of only position line)) told);
    goes_on = goes_on calls reports seen last next begun then judged write_failed a world sees after tallies reported fails;
  }
    where
      tells_counted : (text : List ℕ) (r : Result Bool LineRunFault) → OutputsUnless r w g w' g' text → OutputsUnless (counted r) w g w' g' text
      tells_counted text (Ok complained) told = told
      tells_counted text (Err fault) told = told

-- what a watch has seen where it watches
sees_on : {T E : Type 0} (r : Result T E) (seen : World → List (List ℕ) → Type 0) (start world : World) (calls : List (List ℕ)) → OnOk r (Watches seen start calls world) → OnOk r (seen start calls)
sees_on (Ok x) seen start world calls watches = watches.sees
sees_on (Err fault) seen start world calls watches = tt

-- a player that is the one before is the one that began, if that was
pub remains_on : {N R S T : Type 0} {name mid_name now_name : N} {run mid_run now_run : R} {subject mid_subject now_subject : S} {tells mid_tells now_tells : T} {holds mid_holds now_holds : List ℕ} → Remains name mid_name run mid_run subject mid_subject tells mid_tells holds mid_holds →
    Remains mid_name now_name mid_run now_run mid_subject now_subject mid_tells now_tells mid_holds now_holds → Remains name now_name run now_run subject now_subject tells now_tells holds now_holds
remains_on led stays =
    record { name_is = stays.name_is ∙ led.name_is; run_is = stays.run_is ∙ led.run_is; subject_is = stays.subject_is ∙ led.subject_is; tells_is = stays.tells_is ∙ led.tells_is; holds_is = stays.holds_is ∙ led.holds_is }

-- and its machine is the list's still
pub listed_on : {R : Type 0} (entries_at : R → List Entry) (only : Option (List ℕ)) (calls : List (List ℕ)) {at run : R} (old : World) {new : World} → new ≡ after_all only old calls → old.entries ≡ entries_at at → run ≡ at → new.entries ≡ entries_at run
listed_on entries_at only calls old leaves listed run_is = ap (λ (w : World). w.entries) leaves ∙ listed ∙ ap entries_at (sym run_is)

-- the same for a player that is the one that began
module _ {R A : Type 0} (only_of : R → Option (List ℕ)) (list_of : R → Listed) (seen_old seen_new : R → World → List (List ℕ) → Type 0) where
  pub runner_line : {at run : R} {subject mid_subject : SubjectAt} {telling now_telling : World → List (List ℕ) → ℕ → List ℕ → List ℕ} (start : World) {first : RunPosition} (xs : List (List ℕ)) (line : List ℕ)
      (calls : Bool) (judged : Result Bool LineRunFault) {failed : Bool} {old new : Point} {begun : Tally} (errors now_errors : ℕ) (e e' e'' : Option (List ℕ)) → IfOk judged (λ error. CountsOne error errors now_errors) →
      A → run ≡ at → mid_subject ≡ subject → now_telling ≡ telling →
      LeadsSteps (list_of at) (only_of at) start old.world first old.position begun (tally errors old.awaited) (WritesReports (scope_of subject (list_of at)) (start_at (list_of at) (only_of at) start first begun.awaited) e e') (seen_old at start) xs →
      RunsLine (list_of run) (only_of run) now_telling calls (seen_old run) (seen_new run) (is_meant_line line) (resolved_at (only_of run) old.position line) failed judged old new →
      OnOk judged (ReportsLine (scope_of mid_subject (list_of run)) (only_of run) old.world old.position line old.awaited e' e'') →
      HandlesLine (λ lines. text_of_steps (telling start) (only_of at) [] (steps_of (only_of at) start first lines))
      (λ lines. A × LeadsSteps (list_of at) (only_of at) start new.world first new.position begun (tally now_errors new.awaited) (WritesReports (scope_of subject (list_of at)) (start_at (list_of at) (only_of at) start first begun.awaited) e e'') (seen_new at start) lines)
      (λ fault lines. A × StopsSteps calls (only_of at) start new.world first fault lines) xs line (counted judged) old.written old.gathered new.written new.gathered
  runner_line {at} {run} {subject} {mid_subject} {telling} {now_telling} start {first} xs line calls judged {failed} {old} {new} {begun} errors now_errors e e' e'' counts kept run_is subject_is tells_is led plays reported =
      bench_plays (list_of at) (only_of at) start old.world first old.position xs line led.world_is led.stands (telling start) calls (WritesReports scope (start_at (list_of at) (only_of at) start first begun.awaited) e e'') (seen_new at start) new.world new.position begun (tally now_errors new.awaited) judged failed old.written new.written old.gathered new.gathered kept
      here.hears.world (here.hears.told start _ watches) (sees_on judged _ _ _ _ (here.hears.sees start _ watches)) here.stands
      (tallied (list_of at) (only_of at) start old.world first old.position xs line led.world_is led.stands begun (tally errors old.awaited) (tally now_errors new.awaited) judged led.tallies (steps judged here.judged here.expects counts))
      (reports judged reported) here.failing
    where
      scope : ReportScope
      scope = scope_of subject (list_of at)

      reports : (judged : Result Bool LineRunFault) → OnOk judged (ReportsLine (scope_of mid_subject (list_of run)) (only_of run) old.world old.position line old.awaited e' e'') →
          OnOk judged (WritesReports scope (start_at (list_of at) (only_of at) start first begun.awaited) e e'' (xs ++ line ∷ []))
      reports (Ok error) reported =
          let own : ReportsLine scope (only_of at) old.world old.position line old.awaited e' e'' =
          subst (λ s. ReportsLine (scope_of s (list_of at)) (only_of at) old.world old.position line old.awaited e' e'') subject_is
          (subst (λ r. ReportsLine (scope_of mid_subject (list_of r)) (only_of r) old.world old.position line old.awaited e' e'') run_is reported) in
          reports_more scope (only_of at) start old.world first old.position begun.awaited old.awaited xs line led.world_is led.stands led.tallies.awaits e e' e'' own.0 led.reported own.1 own.2
      reports (Err fault) reported = tt

      steps : (judged : Result Bool LineRunFault) → IfOk judged (λ error. error ≡ has_error (list_of at) (only_of at) old.world (is_meant_line line) (resolved_at (only_of at) old.position line) old.awaited) →
          OnOk judged (new.awaited ≡ awaited_after old.position.number (resolved_at (only_of at) old.position line) old.awaited) → IfOk judged (λ error. CountsOne error errors now_errors) →
          StepsTally (list_of at) (only_of at) old.world old.position line (tally errors old.awaited) (tally now_errors new.awaited) judged
      steps (Ok error) judged expects counts = record { judged = judged; expects = expects; counts = counts }
      steps (Err fault) judged expects counts = tt

      here : RunsLine (list_of at) (only_of at) telling calls (seen_old at) (seen_new at) (is_meant_line line) (resolved_at (only_of at) old.position line) failed judged old new
      here =
          subst (λ t. RunsLine (list_of at) (only_of at) t calls (seen_old at) (seen_new at) (is_meant_line line) (resolved_at (only_of at) old.position line) failed judged old new) tells_is
          (subst (λ r. RunsLine (list_of r) (only_of r) now_telling calls (seen_old r) (seen_new r) (is_meant_line line) (resolved_at (only_of r) old.position line) failed judged old new) run_is plays)

      watches : Watches (seen_old at) start (calls_answered (only_of at) (steps_of (only_of at) start first xs)) old.world
      watches = record { leads = led.world_is; sees = led.sees }

-- at first no line is
pub leads_none : (list : Listed) (only : Option (List ℕ)) (world : World) (first : RunPosition) (begun : Tally) (reports seen : List (List ℕ) → Type 0) → reports [] → seen [] → LeadsSteps list only world world first first begun begun reports seen []
leads_none list only world first begun reports seen reported sees = record { world_is = sym (left_none only world); stands = refl; tallies = tallies_none list only world begun; reported = reported; sees = subst seen (sym (said_none only)) sees }

-- ---- the end

module _ (A : Type 0) (calls : Bool) (list : Listed) (only : Option (List ℕ)) (old new : World) (first next : RunPosition) (begun then : Tally) (reports seen : List (List ℕ) → Type 0) where
  abbrev leads : List (List ℕ) → Type 0
  leads lines = A × LeadsSteps list only old new first next begun then reports seen lines

  abbrev stops : LineRunFault → List (List ℕ) → Type 0
  stops fault lines = A × StopsSteps calls only old new first fault lines

  -- what is known however it ends
  ends_at : (lines : List (List ℕ)) (fault : Option LineRunFault) → EndsAs leads stops fault lines →
      A × (new ≡ after_all only old (calls_of_steps (steps_of only old first lines))) × TakesMemoryFor calls fault (steps_of only old first lines) × IfNone fault (Tallies list only old begun then (steps_of only old first lines))
      × IfNone fault (seen (calls_answered only (steps_of only old first lines))) × IfNone fault (reports lines × (then.awaited ≡ awaited_behind begun.awaited (steps_of only old first lines)))
  ends_at lines None ended = (ended.0, ended.1.world_is, tt, ended.1.tallies, ended.1.sees, (ended.1.reported, ended.1.tallies.awaits))
  ends_at lines (Some ReadFault) ended = (ended.0, ended.1.world_is, tt, tt, tt, tt)
  ends_at lines (Some WriteFault) ended = ⊎_elim (λ on. (on.0, on.1.world_is, tt, tt, tt, tt)) (λ stopped. (stopped.0, stopped.1.world_is, tt, tt, tt, tt)) ended
  ends_at lines (Some TooManyLines) ended = (ended.0, ended.1.world_is, tt, tt, tt, tt)
  ends_at lines (Some NoMemory) ended = (ended.0, ended.1.world_is, ended.1.takes, tt, tt, tt)

  module _ (tells : List (List ℕ) → ℕ → List ℕ → List ℕ) {fault : Option LineRunFault} {count : ℕ} {front : List ℕ} {input rest : Option (List ℕ)} {failed : Bool} {w w' : Option (List ℕ)}
      (plays : PlaysLines (λ lines. text_of_steps tells only [] (steps_of only old first lines)) leads stops fault count most_lines front input rest failed w w') where
    pub remains : A
    remains = (ends_at plays.given fault plays.ends_as).0

    pub world_left : new ≡ after_all only old (calls_of_steps (steps_of only old first plays.given))
    world_left = (ends_at plays.given fault plays.ends_as).1

    -- the turns of the lines were played
    pub steps_run : RunsAll tells calls seen (Tallies list only old begun then) (λ lines. reports lines × (then.awaited ≡ awaited_behind begun.awaited (steps_of only old first lines))) only first fault count old new front input rest failed w w'
    steps_run = record {
      given = plays.given;
      readable = plays.readable;
      world = world_left;
      told = plays.writes;
      ends = plays.ends;
      takes = (ends_at plays.given fault plays.ends_as).2;
      counted = plays.counted;
      complained = (ends_at plays.given fault plays.ends_as).3;
      reported = (ends_at plays.given fault plays.ends_as).5;
      few = plays.few;
      sees = (ends_at plays.given fault plays.ends_as).4;
    }

-- all lines were played, and then a write failed
pub cut_behind : (input rest : Option (List ℕ)) (lines : List (List ℕ)) (failed : Bool) → length lines ≤ most_lines → EndsFor most_lines None lines input rest failed → EndsFor most_lines (Some WriteFault) lines input rest failed
cut_behind None rest lines failed few ends = tt
cut_behind (Some text) rest lines failed few ends = (ends.0, ends.1, (few, ends.2.1))

-- what is complained of then comes as a fault, where it can't be told
pub closes_as : (judged : Result Bool LineRunFault) (a b : Bool) → Fails judged b false → ClosesAs None (result_err (counted judged)) a b
closes_as (Ok complained) a b fails = fails
closes_as (Err ReadFault) a b fails = absurd fails
closes_as (Err WriteFault) a b fails = (refl, fails)
closes_as (Err TooManyLines) a b fails = absurd fails
closes_as (Err NoMemory) a b fails = absurd (let e : false ≡ true = fails.1 in cc)

-- complaints can be told where no fault came
pub complaints_work : (fault : Option LineRunFault) (k a : Bool) → (k || a) ≡ is_write_fault fault → IfNone fault (a ≡ false)
complaints_work None k a writing = (or_parts k a writing).1
complaints_work (Some fault) k a writing = tt

-- what is complained of then may not be told
pub plays_closed : {tells : List (List ℕ) → ℕ → List ℕ → List ℕ} {calls : Bool} {seen : List (List ℕ) → Type 0} {counts closed : List LineStep → Type 0} {reports all : List (List ℕ) → Type 0} {only : Option (List ℕ)} {first : RunPosition} {count : ℕ} {old new : World} {front : List ℕ} {input rest : Option (List ℕ)} {failed : Bool} {w w' : Option (List ℕ)}
    (fault ended : Option LineRunFault) (a b : Bool) → ClosesAs fault ended a b → IfNone ended ((steps : List LineStep) → counts steps → closed steps) → IfNone ended ((lines : List (List ℕ)) → reports lines → all lines) →
    RunsAll tells calls seen counts reports only first fault count old new front input rest failed w w' → RunsAll tells calls seen closed all only first ended count old new front input rest failed w w'
plays_closed None None a b closes more last plays = record {
  given = plays.given;
  readable = plays.readable;
  world = plays.world;
  told = plays.told;
  ends = plays.ends;
  takes = tt;
  counted = plays.counted;
  complained = more _ plays.complained;
  reported = last _ plays.reported;
  few = plays.few;
  sees = plays.sees;
}
plays_closed {input = input} {rest = rest} {failed = failed} None (Some fault) a b closes more last plays =
    rw closes.0 (record {
      given = plays.given;
      readable = plays.readable;
      world = plays.world;
      told = record { part = _; left = []; parts = sym (append-nil _); grows = plays.told };
      ends = cut_behind input rest plays.given failed plays.few plays.ends;
      takes = tt;
      counted = tt;
      complained = tt;
      reported = tt;
      few = plays.few;
      sees = tt;
    })
plays_closed (Some fault) ended a b closes more last plays =
    rw closes.0 (record {
      given = plays.given;
      readable = plays.readable;
      world = plays.world;
      told = plays.told;
      ends = plays.ends;
      takes = plays.takes;
      counted = tt;
      complained = tt;
      reported = tt;
      few = plays.few;
      sees = tt;
    })

-- an expected log line that no call follows is counted then
pub closed_counts : (list : Listed) (only : Option (List ℕ)) (start : World) (begun : Tally) (errors now_errors : ℕ) (awaited : Awaited) (ended : Option LineRunFault) → IfNone ended (CountsOne (is_some awaited.first) errors now_errors) →
    IfNone ended ((steps : List LineStep) → Tallies list only start begun (tally errors awaited) steps → CountsErrors list only start begun now_errors steps)
closed_counts list only start begun errors now_errors awaited None counts = λ steps led. errors_counted list only start begun (tally errors awaited) steps now_errors led counts
closed_counts list only start begun errors now_errors awaited (Some fault) counts = tt

-- and reported
pub closed_reports : (scope : ReportScope) (only : Option (List ℕ)) (start : World) (first : RunPosition) (begun awaited : Awaited) (w w' w'' : Option (List ℕ)) (ended : Option LineRunFault) → IfNone ended (Appends w' w'' (left_over_report scope.subject awaited)) →
    IfNone ended ((lines : List (List ℕ)) → WritesReports scope (start_at scope.list only start first begun) w w' lines × (awaited ≡ awaited_behind begun (steps_of only start first lines)) → WritesAllReports scope (start_at scope.list only start first begun) w w'' lines)
closed_reports scope only start first begun awaited w w' w'' None reported = λ lines led. reports_closed scope only start first begun awaited w w' w'' lines led.1 led.0 reported
closed_reports scope only start first begun awaited w w' w'' (Some fault) reported = tt

-- whether a write failed
pub closed_writing : (fault ended : Option LineRunFault) (k a b : Bool) → (k || a) ≡ is_write_fault fault → ClosesAs fault ended a b → (k || b) ≡ is_write_fault ended
closed_writing None None k a b writing closes = or_from k b (or_parts k a writing).0 closes
closed_writing None (Some fault) k a b writing closes = rw (closes.0, closes.1, (or_parts k a writing).0) refl
closed_writing (Some fault) ended k a b writing closes = rw (closes.0, closes.1) writing

-- whether a read failed, and what was kept
pub closed_on : (P : Type 0) (fault ended : Option LineRunFault) (a b : Bool) → ClosesAs fault ended a b → IfNone fault P → IfNone ended P
closed_on P None None a b closes holds = holds
closed_on P None (Some fault) a b closes holds = tt
closed_on P (Some fault) ended a b closes holds = rw closes.0 tt
