-- The results of each line of a scenario, event by event.
use Rattle.std.specs.Prelude.{ℕ, ◌+◌, Bool, true, false, List, [], ◌∷◌, map, nat_eq, if◌then◌else◌, Option, Some, None}
use Rattle.run_record.specs.LineRecords.{record_of_first, record_of_more}
use Rattle.run_record.specs.RecordedCalls.{Event, RecordedCall, Meeting}
use Rattle.run_record.specs.RecordedCalls.Meeting.{Logs, Hears}
use Rattle.run_record.specs.Recorded.{LineMark, LineRecord}

-- nothing yet
abbrev pub unmarked : List (List ℕ) → List LineMark
unmarked lines = map (λ line. record { line = line; logs = false; note = None }) lines

-- one more call
abbrev pub noted_more : List ℕ → Option LineRecord → RecordedCall → LineRecord
noted_more line None hearing = record_of_more line (record_of_first hearing) hearing
noted_more line (Some note) hearing = record_of_more line note hearing

abbrev pub marked : LineMark → Meeting → LineMark
marked mark Logs = record mark { logs = true }
marked mark (Hears hearing) = record mark { note = Some (noted_more mark.line mark.note hearing) }

-- one more event, in lines from a number on
abbrev pub marks_after : ℕ → Event → List LineMark → List LineMark
marks_after number event [] = []
marks_after number event (mark ∷ marks) =
    (if nat_eq event.number number then marked mark event.meeting else mark)
    ∷ marks_after (number + 1) event marks

-- events one after another, in lines from the first on
abbrev pub all_marked : List Event → List LineMark → List LineMark
all_marked [] marks = marks
all_marked (event ∷ events) marks = all_marked events (marks_after 1 event marks)
