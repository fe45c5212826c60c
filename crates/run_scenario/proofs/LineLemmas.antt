-- A line that is played: what it says is answered and told, or nothing changes, and then it is judged.
use Rattle.std.proofs.Common.{◌≡◌, ℕ, ◌&&◌, ◌||◌, Bool, true, false, List, [], ◌∷◌, ◌++◌, append-nil, is_some, Option, Some, None, Result, Ok, Err, IfOk, OnOk, refl, sym, ◌∙◌, ap, subst}
use Rattle.std.proofs.lemmas.Bool.{or_left}
use Rattle.own_model.specs.LinesOfName.{said_by}
use Rattle.own_model.specs.Listed.{Listed}
use Rattle.own_model.specs.Transcript.{heard}
use Rattle.own_model.specs.World.{World, world_running}
use Rattle.run_lines.specs.Answer.{IsAnswer}
use Rattle.run_lines.specs.Answered.{after_all}
use Rattle.run_lines.specs.Faults.{Fails}
use Rattle.run_devices.specs.RunOutput.{Tells, OutputsUnless}
use Rattle.run_lines.specs.declared.line_run_fault.LineRunFault.{LineRunFault}
use Rattle.run_devices.proofs.GatheredLemmas.{Tells-none}
use Rattle.run_lines.proofs.ToldLemmas.{said_none, world_running-append}
use Rattle.run_scenario.specs.Faults.{takes_memory}
use Rattle.run_scenario.specs.CallAnswers.{AnswersIn, ReportsCalls, IsAnsweredCall, IsAnsweredAs, answer_of}
use Rattle.run_scenario.specs.Judging.{Awaited, awaited_after, has_error, is_complained, text_in}
use Rattle.run_scenario.specs.ScenarioRuns.{RunsLine, Point, point}
use Rattle.line_steps.specs.ResolvedLines.{ResolvedLine}
use Rattle.run_scenario.specs.LineSteps.{Arrives, calls_in, binds_names, is_meant_line, resolved_at, position_after}
use Rattle.run_scenario.specs.Reports.{AppendsReport, Reports}
use Rattle.run_scenario.specs.RunReports.{ReportScope, ReportsLine}
use Rattle.line_steps.specs.ResolvedLines.ResolvedLine.{TooLong, Skipped, BadName, Follow, Misplaced, Nothing, Log, Call, BadLine}
use Rattle.run_scenario.specs.Observation.{IsAnsweredAfter, Watches}
use Rattle.line_steps.specs.RunPosition.{RunPosition, arrived, crosses, passed}
use Rattle.run_scenario.specs.declared.call_observer.ObservedCall.{ObservedCall}
use Rattle.run_scenario.proofs.FailLemmas.{fails_before, fails_beside}
use Rattle.run_scenario.proofs.PlayedLemmas.{told_of_one}
use Rattle.run_scenario.proofs.LineStepLemmas.{answered_text, stands_answered}

-- what is so is so of what succeeded
pub on_ok : {T E : Type 0} {P : Type 0} (r : Result T E) → P → OnOk r P
on_ok (Ok done) p = p
on_ok (Err fault) p = tt

-- what was told is told, whatever a complaint becomes
told_unless : {T E : Type 0} {w w' : Option (List ℕ)} {g g' text : List ℕ} (r : Result T E) → Tells w g w' g' text → OutputsUnless r w g w' g' text
told_unless (Ok done) told = told
told_unless {g' = g'} (Err fault) told = (g', told)

-- ---- what is heard of its calls, and told

module _ {only : Option (List ℕ)} {tells : World → List (List ℕ) → ℕ → List ℕ → List ℕ} {number : ℕ} {calls : List (List ℕ)} {old new : World} {w : Option (List ℕ)} {g : List ℕ} where
  -- where none is answered nothing changes
  pub hears_none : {seen : World → List (List ℕ) → Type 0} {T : Type 0} (r : Result T LineRunFault) → new ≡ after_all only old calls → said_by only calls ≡ [] → ReportsCalls only tells seen seen number calls old new r w g w g
  hears_none {seen} r leaves none = record {
    world = leaves;
    told = λ start earlier watches. rw none (told_unless r (Tells-none w g));
    sees = λ start earlier watches.
        on_ok r (record {
          leads = leaves ∙ ap (world_running old) none ∙ watches.leads ∙ ap (world_running start) (unchanged earlier);
          sees = subst (seen start) (unchanged earlier) watches.sees;
        });
  }
    where
      unchanged : (earlier : List (List ℕ)) → earlier ≡ earlier ++ said_by only calls
      unchanged earlier = sym (ap (λ c. earlier ++ c) none ∙ append-nil earlier)

  module _ {w' : Option (List ℕ)} {g' : List ℕ} {seen now_seen : World → List (List ℕ) → Type 0} where
    -- one that is answered is told to the watch
    pub hears_one : {T : Type 0} (it : ObservedCall) (r : Result T LineRunFault) → new ≡ after_all only old calls → IsAnsweredAs only old number calls it →
        ((start : World) (earlier : List (List ℕ)) → seen start earlier → IsAnsweredAfter start earlier it.line.now new it.answer → OutputsUnless r w g w' g' (tells start earlier it.number it.line.now)) →
        ((start : World) (earlier : List (List ℕ)) → seen start earlier → IsAnsweredAfter start earlier it.line.now new it.answer → OnOk r (now_seen start (earlier ++ it.line.now ∷ []))) →
        ReportsCalls only tells seen now_seen number calls old new r w g w' g'
    hears_one it r leaves is told sees = record {
      world = leaves;
      told = λ start earlier watches.
          subst (OutputsUnless r w g w' g') (ap (λ n. tells start earlier n it.line.now) is.numbered ∙ told_of_one (tells start) earlier number it.line.now _ is.said)
          (told start earlier watches.sees (told_of start earlier watches));
      sees = λ start earlier watches. watches_on r start earlier watches (sees start earlier watches.sees (told_of start earlier watches));
    }
      where
        told_of : (start : World) (earlier : List (List ℕ)) → Watches seen start earlier old → IsAnsweredAfter start earlier it.line.now new it.answer
        told_of start earlier watches = record {
          leaves =
              leaves ∙ ap (world_running old) is.said ∙ ap (λ world. world_running world (it.line.now ∷ [])) watches.leads ∙ world_running-append start earlier (it.line.now ∷ []);
          answers = subst (λ (world : World). IsAnswer world (heard world.entries it.line.now) it.answer) watches.leads is.answers;
        }

        watches_on : {T : Type 0} (r : Result T LineRunFault) (start : World) (earlier : List (List ℕ)) → Watches seen start earlier old → OnOk r (now_seen start (earlier ++ it.line.now ∷ [])) →
            OnOk r (Watches now_seen start (earlier ++ said_by only calls) new)
        watches_on (Ok done) start earlier watches sees = rw is.said (record { leads = (told_of start earlier watches).leaves; sees = sees })
        watches_on (Err fault) start earlier watches sees = tt

    -- what was told stays told, whatever is complained of it
    hears_on : {A T : Type 0} {done : A} (r : Result T LineRunFault) → ReportsCalls only tells seen now_seen number calls old new (Ok done) w g w' g' → ReportsCalls only tells seen now_seen number calls old new r w g w' g'
    hears_on r hears = record {
      world = hears.world;
      told = λ start earlier watches. told_unless r (hears.told start earlier watches);
      sees = λ start earlier watches. on_ok r (hears.sees start earlier watches);
    }

    hears_fault : {A T : Type 0} (fault : LineRunFault) → ReportsCalls {T = A} only tells seen now_seen number calls old new (Err fault) w g w' g' → ReportsCalls {T = T} only tells seen now_seen number calls old new (Err fault) w g w' g'
    hears_fault fault hears = record { world = hears.world; told = hears.told; sees = λ start earlier watches. tt }

-- ---- what is complained of it, and what comes of it

pub answers_in : (only : Option (List ℕ)) (world : World) (number : ℕ) (calls : List (List ℕ)) (o : Option ObservedCall) → IsAnsweredCall only world number calls o → AnswersIn only world calls (answer_of o)
answers_in only world number calls (Some it) is = (it.line.now, is.said, is.answers)
answers_in only world number calls None none = none

-- what takes room without its call takes some
takes_wider : (calls : Bool) (resolved : ResolvedLine) → takes_memory false resolved ≡ true → takes_memory calls resolved ≡ true
takes_wider calls TooLong takes = takes
takes_wider calls Skipped takes = takes
takes_wider calls (BadName fault) takes = takes
takes_wider calls (Follow directive) takes = takes
takes_wider calls (Misplaced column why) takes = takes
takes_wider calls Nothing takes = takes
takes_wider calls (Log text) takes = takes
takes_wider true (Call f line reply) takes = refl
takes_wider false (Call f line reply) takes = takes
takes_wider calls (BadLine fault) takes = takes

-- and so does a call that is told, where that takes some
told_takes : (only : Option (List ℕ)) (world : World) (number : ℕ) (calls : Bool) (resolved : ResolvedLine) (o : Option ObservedCall) → IsAnsweredCall only world number (calls_in resolved) o → (is_some o && calls) ≡ true → takes_memory calls resolved ≡ true
told_takes only world number calls resolved None none takes = absurd (let e : false ≡ true = takes in cc)
told_takes only world number calls resolved (Some it) is takes = of resolved is.said
  where
    unsaid : {A : Type 0} → said_by only [] ≡ it.line.now ∷ [] → A
    unsaid said = absurd (let e : [] ≡ it.line.now ∷ [] = sym (said_none only) ∙ said in cc)

    of : (resolved : ResolvedLine) → said_by only (calls_in resolved) ≡ it.line.now ∷ [] → takes_memory calls resolved ≡ true
    of TooLong said = unsaid said
    of Skipped said = unsaid said
    of (BadName fault) said = unsaid said
    of (Follow directive) said = unsaid said
    of (Misplaced column why) said = unsaid said
    of Nothing said = unsaid said
    of (Log text) said = unsaid said
    of (Call f line reply) said = ap (λ b. b || binds_names f) takes
    of (BadLine fault) said = unsaid said

-- and where rounds begin or end behind a line that takes some too
or_wider : (a b c : Bool) → (a ≡ true → b ≡ true) → (a || c) ≡ true → (b || c) ≡ true
or_wider true b c wider takes = ap (λ x. x || c) (wider refl)
or_wider false true c wider takes = refl
or_wider false false c wider takes = takes

module _ {only : Option (List ℕ)} {tells : World → List (List ℕ) → ℕ → List ℕ → List ℕ} {calls : Bool} {seen now_seen : World → List (List ℕ) → Type 0} {old new : World} {position next : RunPosition} {awaited now_awaited : Awaited} {list : Listed}
    {w w' : Option (List ℕ)} {g g' : List ℕ} (told_failed own_failed meant : Bool) (resolved : ResolvedLine) (o : Option ObservedCall) (heard : IsAnsweredCall only old position.number (calls_in resolved) o) where
  -- a line was told and judged
  pub step_judged : {T : Type 0} {done : T} (r : Result Bool LineRunFault) → ReportsCalls only tells seen now_seen position.number (calls_in resolved) old new (Ok done) w g w' g' → told_failed ≡ false →
      IfOk r (λ complained. complained ≡ is_complained meant resolved (text_in list o) awaited) → OnOk r (now_awaited ≡ awaited_after position.number resolved awaited) →
      OnOk r (Arrives position resolved (answer_of o) next) → Fails r own_failed (takes_memory false resolved || crosses position) →
      RunsLine list only tells calls seen now_seen meant resolved (told_failed || own_failed) r (point old position awaited w g) (point new next now_awaited w' g')
  step_judged r hears works judged expects stands fails = record {
    hears = hears_on r hears;
    stands = stands_on r stands;
    judged = judged_on r judged;
    expects = expects;
    failing = fails_beside r told_failed own_failed _ _ works fails (or_wider (takes_memory false resolved) (takes_memory calls resolved) (crosses position) (takes_wider calls resolved));
  }
    where
      stands_on : (r : Result Bool LineRunFault) → OnOk r (Arrives position resolved (answer_of o) next) → OnOk r (next ≡ arrived (position_after only old (passed position) resolved))
      stands_on (Ok complained) stands = stands.is ∙ ap arrived (stands_answered only old (passed position) resolved _ (answers_in only old position.number (calls_in resolved) o heard))
      stands_on (Err fault) stands = tt

      judged_on : (r : Result Bool LineRunFault) → IfOk r (λ complained. complained ≡ is_complained meant resolved (text_in list o) awaited) → IfOk r (λ complained. complained ≡ has_error list only old meant resolved awaited)
      judged_on (Ok complained) judged = judged ∙ ap (λ answer. is_complained meant resolved answer awaited) (answered_text only old list position.number (calls_in resolved) o heard)
      judged_on (Err fault) judged = tt

  -- or it couldn't be told
  pub step_silent : {T : Type 0} (fault : LineRunFault) → ReportsCalls {T = T} only tells seen now_seen position.number (calls_in resolved) old new (Err fault) w g w' g' → own_failed ≡ false → Fails {T = T} (Err fault) told_failed (is_some o && calls) →
      RunsLine list only tells calls seen now_seen meant resolved (told_failed || own_failed) (Err fault) (point old position awaited w g) (point new next now_awaited w' g')
  step_silent {T} fault hears works fails = record {
    hears = hears_fault fault hears;
    stands = tt;
    judged = tt;
    expects = tt;
    failing = fails_before T Bool fault told_failed own_failed (is_some o && calls) _ works fails (λ takes. or_left _ (crosses position) (told_takes only old position.number calls resolved o heard takes));
  }

-- what a line is may be told in other words
pub plays_as : {list : Listed} {only : Option (List ℕ)} {tells : World → List (List ℕ) → ℕ → List ℕ → List ℕ} {calls : Bool} {seen now_seen : World → List (List ℕ) → Type 0} {meant : Bool} {resolved here : ResolvedLine} {failed : Bool} {r : Result Bool LineRunFault} {old new : Point} →
    resolved ≡ here → RunsLine list only tells calls seen now_seen meant resolved failed r old new → RunsLine list only tells calls seen now_seen meant here failed r old new
plays_as {list} {only} {tells} {calls} {seen} {now_seen} {meant} {failed = failed} {r = r} {old = old} {new = new} is plays = subst (λ d. RunsLine list only tells calls seen now_seen meant d failed r old new) is plays

-- what is reported of a line, by its error
pub reports_line : (scope : ReportScope) (only : Option (List ℕ)) (old : World) (position : RunPosition) (line : List ℕ) (awaited : Awaited) (e e' : Option (List ℕ)) (r : Result Bool LineRunFault) →
    IfOk r (λ complained. complained ≡ has_error scope.list only old (is_meant_line line) (resolved_at only position line) awaited) → Reports scope.subject position.number r e e' → OnOk r (ReportsLine scope only old position line awaited e e')
reports_line scope only old position line awaited e e' (Ok complained) judged reports = subst (λ error. AppendsReport scope.subject position.number error e e') judged reports
reports_line scope only old position line awaited e e' (Err fault) judged reports = tt
