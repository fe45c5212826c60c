-- The errors of lines are reported one after another.
use Rattle.std.proofs.Common.{◌≡◌, ℕ, Bool, true, false, List, [], ◌∷◌, ◌++◌, Option, None, Result, IfOk, append_assoc, append-nil, ap, subst, sym, ◌∙◌}
use Rattle.std.specs.Prelude.{if◌then◌else◌}
use Rattle.std.proofs.lemmas.List.{map-append}
use Rattle.own_model.specs.Listed.{Listed}
use Rattle.own_model.specs.World.{World}
use Rattle.list_parser.specs.declared.fault.BootFault.{BootFault}
use Rattle.line_steps.specs.RunPosition.{RunPosition}
use Rattle.line_names.specs.Filling.{FilledLine}
use Rattle.line_steps.specs.ResolvedLines.ResolvedLine.{Call}
use Rattle.run_scenario.specs.LineSteps.{reply_in, resolved_at}
use Rattle.run_scenario.specs.declared.misreading.LineError.{LineError as Told}
use Rattle.run_record.specs.Recorded.{pieces_of}
use Rattle.run_record.specs.RecordedCalls.{RecordingState, first_recording, recording_behind}
use Rattle.run_record.specs.LineErrors.{LineError, error_view, errors_view, is_missed, recording_errors, recording_errors_from, recording_errors_in}
use Rattle.run_record.specs.LineErrors.Reason.{Misread}
use Rattle.run_record.specs.declared.recording.Recording.{Recording}
use Rattle.run_record.specs.declared.recording_error.RecordingError.{RecordingError}
use Rattle.run_record.specs.declared.recording_error.RecordingError.TheVariants as told

-- one line more
pub errors_more : (whole before now : List LineError) (stage next : RecordingState) (text line : List ℕ) (behind : List (List ℕ)) →
    before ++ recording_errors_from stage (pieces_of text) ≡ whole → pieces_of text ≡ line ∷ behind →
    now ≡ before ++ recording_errors_in stage line (resolved_at None stage.position line) → next ≡ recording_behind stage line →
    now ++ recording_errors_from next behind ≡ whole
errors_more whole before now stage next text line behind so pieces now_is next_is =
    let here : List LineError = recording_errors_in stage line (resolved_at None stage.position line) in
    ap (λ us. us ++ recording_errors_from next behind) now_is
    ∙ ap (λ s. (before ++ here) ++ recording_errors_from s behind) next_is
    ∙ append_assoc before here (recording_errors_from (recording_behind stage line) behind)
    ∙ ap (λ ps. before ++ recording_errors_from stage ps) (sym pieces)
    ∙ so

-- of the whole text
pub whole_errors : (list : Listed) (start : RunPosition) (played : List ℕ) (world : World) (stage : RecordingState) (first found now : List LineError) →
    stage ≡ first_recording list world start → first ≡ [] → found ≡ first ++ recording_errors_from stage (pieces_of played) → now ≡ found →
    now ≡ recording_errors list world start played
whole_errors list start played world stage first found now stage_is none found_is now_is =
    now_is ∙ found_is ∙ ap (λ us. us ++ recording_errors_from stage (pieces_of played)) none ∙ ap (λ s. recording_errors_from s (pieces_of played)) stage_is

-- on the machine of a list
pub errors_there : (list : Listed) (start : RunPosition) (played : List ℕ) (world listed : World) (made : Result Recording BootFault) →
    world ≡ listed → IfOk made (λ recording. errors_view recording.errors.items ≡ recording_errors list world start played) →
    IfOk made (λ recording. errors_view recording.errors.items ≡ recording_errors list listed start played)
errors_there list start played world listed made starts is =
    subst (λ w. IfOk made (λ recording. errors_view recording.errors.items ≡ recording_errors list w start played)) starts is

-- ---- a call that isn't understood

-- its error is found, or there is none
pub none_missed : (b : Bool) (errors : List LineError) (error : LineError) → b ≡ false → errors ≡ errors ++ (if b then error ∷ [] else [])
none_missed b errors error is = sym (append-nil errors) ∙ ap (λ t. errors ++ (if t then error ∷ [] else [])) (sym is)

pub one_missed : (old new : List RecordingError) (error : Told) (number : ℕ) (b : Bool) → new ≡ old ++ told.Misread error ∷ [] → error.number ≡ number → b ≡ true
    → errors_view new ≡ errors_view old ++ (if b then record { number = number; reason = Misread } ∷ [] else [])
one_missed old new error number b pushed at is =
    ap errors_view pushed ∙ map-append error_view old (told.Misread error ∷ [])
    ∙ ap (λ (n : ℕ). errors_view old ++ record { number = n; reason = Misread } ∷ []) at
    ∙ ap (λ t. errors_view old ++ (if t then record { number = number; reason = Misread } ∷ [] else [])) (sym is)

-- by its reply
pub missed_in : (stage : RecordingState) (line call : List ℕ) (filled : FilledLine) (expected : Option (List ℕ)) (reply : List ℕ) (old new : List LineError)
    → reply ≡ reply_in stage.world call
    → new ≡ old ++ (if is_missed stage.list line call expected reply then record { number = stage.position.number; reason = Misread } ∷ [] else [])
    → new ≡ old ++ recording_errors_in stage line (Call filled call expected)
missed_in stage line call filled expected reply old new is found =
    found ∙ ap (λ r. old ++ (if is_missed stage.list line call expected r then record { number = stage.position.number; reason = Misread } ∷ [] else [])) is
