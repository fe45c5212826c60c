-- The lines of a scenario that have an error: they can't be parsed, or their calls aren't understood.
use Rattle.std.specs.Prelude.{ℕ, ◌&&◌, ◌||◌, not, Bool, false, List, [], ◌∷◌, ◌++◌, map, if◌then◌else◌, None, Option}
use Rattle.own_model.specs.Listed.{Listed}
use Rattle.own_model.specs.World.{World}
use Rattle.line_friendly.specs.Expected.{can_pass}
use Rattle.line_steps.specs.ResolvedLines.{ResolvedLine, is_unread}
use Rattle.line_steps.specs.ResolvedLines.ResolvedLine.{TooLong, BadName, Misplaced, Call, BadLine}
use Rattle.line_steps.specs.RunPosition.{RunPosition}
use Rattle.line_steps.specs.declared.unread_line.UnreadReason.{UnreadReason}
use Rattle.line_steps.specs.declared.unread_line.UnreadReason.TheVariants as why
use Rattle.run_scenario.specs.LineSteps.{reply_in, resolved_at}
use Rattle.run_scenario.specs.UnknownNames.{names_unknown}
use Rattle.run_record.specs.Recorded.{pieces_of}
use Rattle.run_record.specs.RecordedCalls.{RecordingState, first_recording, is_lost, recording_behind}
use Rattle.run_record.specs.declared.recording_error.RecordingError.{RecordingError}
use Rattle.run_record.specs.declared.recording_error.RecordingError.TheVariants as told

-- why a line has an error: it can't be parsed, or its call isn't understood
pub data Reason : Type 0 where
  Unread : ResolvedLine → Reason
  Misread : Reason

-- the number of a line, and why it has an error
pub record LineError : Type 0 where
  pub number : ℕ
  pub reason : Reason

-- the call of a line isn't understood, by its reply, and the line doesn't expect the whole reply that says so
abbrev pub is_missed : Listed → List ℕ → List ℕ → Option (List ℕ) → List ℕ → Bool
is_missed list line call expected reply =
    is_lost list line call reply && (names_unknown list call || not (can_pass expected reply))

abbrev pub is_missed_in : RecordingState → List ℕ → ResolvedLine → Bool
is_missed_in stage line (Call filled call expected) = is_missed stage.list line call expected (reply_in stage.world call)
is_missed_in stage line resolved = false

abbrev pub recording_errors_in : RecordingState → List ℕ → ResolvedLine → List LineError
recording_errors_in stage line resolved =
    if is_unread resolved then record { number = stage.position.number; reason = Unread resolved } ∷ []
    else (if is_missed_in stage line resolved then record { number = stage.position.number; reason = Misread } ∷ [] else [])

-- the errors of lines from a state on, one for each step
abbrev pub recording_errors_from : RecordingState → List (List ℕ) → List LineError
recording_errors_from stage [] = []
recording_errors_from stage (line ∷ lines) =
    recording_errors_in stage line (resolved_at None stage.position line) ++ recording_errors_from (recording_behind stage line) lines

-- and of a text that is run from a position on, on the machine of a list
abbrev pub recording_errors : Listed → World → RunPosition → List ℕ → List LineError
recording_errors list world start played = recording_errors_from (first_recording list world start) (pieces_of played)

-- a line by the reason that is reported
abbrev pub line_by_reason : UnreadReason → ResolvedLine
line_by_reason why.TooLong = TooLong
line_by_reason (why.Fault fault) = BadLine fault
line_by_reason (why.Name fault) = BadName fault
line_by_reason (why.Misplaced column fault) = Misplaced column fault

abbrev pub error_view : RecordingError → LineError
error_view (told.Unread it) = record { number = it.number; reason = Unread (line_by_reason it.why) }
error_view (told.Misread it) = record { number = it.number; reason = Misread }

abbrev pub errors_view : List RecordingError → List LineError
errors_view errors = map error_view errors
