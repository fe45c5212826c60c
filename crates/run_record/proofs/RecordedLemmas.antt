-- What is recorded of a scenario that is run line by line.
use Rattle.std.proofs.Common.{◌≡◌, ℕ, Bool, false, List, [], ◌∷◌, get_or, Option, Some, None, Result, Ok, Err, IfOk, OnOk, ap, refl, subst, sym, ◌∙◌}
use Rattle.own_model.specs.Transcript.{heard}
use Rattle.own_model.specs.Listed.{Listed}
use Rattle.own_model.specs.World.{World}
use Rattle.list_parser.specs.declared.fault.BootFault.{BootFault}
use Rattle.line_steps.specs.ResolvedLines.{ResolvedLine}
use Rattle.line_steps.specs.RunPosition.{RunPosition}
use Rattle.run_lines.specs.Answer.{AnswersLine, IsAnswer}
use Rattle.run_lines.specs.declared.line_answer.LineAnswer.{LineAnswer}
use Rattle.run_scenario.specs.CallAnswers.{AnswersIn, TakesStep}
use Rattle.run_scenario.specs.LineSteps.{next_position, resolved_at}
use Rattle.run_scenario.specs.declared.line_step.LineStep.{LineStep}
use Rattle.run_record.specs.Marked.{all_marked, unmarked}
use Rattle.run_record.specs.RecordedCalls.{RecordingState, awaits_after, events, events_in, first_recording, recording_behind}
use Rattle.run_record.specs.Recorded.{LineMark, pieces_of, recorded, without_last, written_lines}
use Rattle.run_record.specs.Views.{recording_in}
use Rattle.run_record.specs.declared.recording.Recording.{Recording}
use Rattle.run_record.proofs.MarkLemmas.{marked_on, marks_in_all}

-- ---- the step of a line

-- what holds holds if all is well
on_ok : {E : Type 0} (r : Result Unit E) {P : Type 0} → P → OnOk r P
on_ok (Ok done) p = p
on_ok (Err fault) p = tt

-- what is so by a line's step is so by what the line is
pub as_resolved : {E : Type 0} (r : Result Unit E) (P : ResolvedLine → Type 0) {seen resolved : ResolvedLine} → seen ≡ resolved → P seen → OnOk r (P resolved)
as_resolved r P is p = on_ok r (subst P is p)

-- a call has the answer of its line
pub answers_line : (world : World) (line : List ℕ) (answer : Option LineAnswer) → AnswersIn None world (line ∷ []) answer → AnswersLine None world line answer
answers_line world line None none = none
answers_line world line (Some answer) answers =
    (refl, subst (λ l. IsAnswer world (heard world.entries l) answer) (sym (ap (λ ls. get_or ls 0 line) answers.1)) answers.2)

-- the state after a line
pub stepped : {E : Type 0} (r : Result Unit E) (list : Listed) (position mid next : RunPosition) (awaits mid_awaits : Bool) (line : List ℕ) (old new : World) (step : LineStep) (seen : ResolvedLine) →
    TakesStep None position.number (resolved_at None position line) old new step → seen ≡ resolved_at None position line → mid ≡ position → mid_awaits ≡ awaits_after awaits seen →
    (TakesStep None mid.number (resolved_at None mid line) old new step → OnOk r (next ≡ next_position None old mid line)) →
    OnOk r (recording_in list next mid_awaits new ≡ recording_behind (recording_in list position awaits old) line)
stepped r list position mid next awaits mid_awaits line old new step seen takes is mid_is awaited leads =
    by r (subst (λ (s : RunPosition). TakesStep None s.number (resolved_at None s line) old new step → OnOk r (next ≡ next_position None old s line)) mid_is leads takes)
  where
    by : {E : Type 0} (r : Result Unit E) → OnOk r (next ≡ next_position None old position line) → OnOk r (recording_in list next mid_awaits new ≡ recording_behind (recording_in list position awaits old) line)
    by (Ok done) leads = λ i. record { list = list; position = leads i; world = takes.world i; awaits = (awaited ∙ ap (awaits_after awaits) is) i }
    by (Err fault) leads = tt

-- ---- all lines

-- a line more is played
pub one_more : (whole marks now : List LineMark) (all all' : Bool) (stage next : RecordingState) (text line : List ℕ) (behind : List (List ℕ)) →
    whole ≡ all_marked (events all stage (pieces_of text)) marks → pieces_of text ≡ line ∷ behind →
    now ≡ all_marked (events_in all stage line (resolved_at None stage.position line)) marks → all' ≡ all → next ≡ recording_behind stage line →
    whole ≡ all_marked (events all' next behind) now
one_more whole marks now all all' stage next text line behind so pieces now_is all_is next_is =
    rw (now_is, all_is, next_is)
    (so ∙ ap (λ ps. all_marked (events all stage ps) marks) pieces
    ∙ marked_on (events_in all stage line (resolved_at None stage.position line)) (events all (recording_behind stage line) behind) marks)

-- a play begins
pub first_in : (list : Listed) (position : RunPosition) (awaits : Bool) (world : World) (start : RunPosition) → position ≡ start → awaits ≡ false → recording_in list position awaits world ≡ first_recording list world start
first_in list position awaits world start is none = rw (is, none) refl

-- the whole text
pub whole_recorded : (all made_all : Bool) (list : Listed) (start : RunPosition) (played scenario : List ℕ) (world : World)
    (stage : RecordingState) (first marks : List LineMark) (text : List ℕ) →
    made_all ≡ all → stage ≡ first_recording list world start → first ≡ unmarked (pieces_of scenario) →
    marks ≡ all_marked (events made_all stage (pieces_of played)) first → text ≡ without_last (written_lines made_all marks) →
    text ≡ recorded all list world start played scenario
whole_recorded all made_all list start played scenario world stage first marks text all_is stage_is first_is marks_is text_is =
    text_is
    ∙ ap (λ ms. without_last (written_lines made_all ms))
    (marks_is ∙ ap (all_marked (events made_all stage (pieces_of played))) first_is
    ∙ marks_in_all (events made_all stage (pieces_of played)) (pieces_of scenario))
    ∙ rw (stage_is, all_is) refl

-- and on the machine of a list
pub recorded_there : (all : Bool) (list : Listed) (start : RunPosition) (played scenario : List ℕ) (world listed : World) (made : Result Recording BootFault) →
    world ≡ listed → IfOk made (λ recording. recording.text.items ≡ recorded all list world start played scenario) →
    IfOk made (λ recording. recording.text.items ≡ recorded all list listed start played scenario)
recorded_there all list start played scenario world listed made starts is =
    subst (λ w. IfOk made (λ recording. recording.text.items ≡ recorded all list w start played scenario)) starts is
