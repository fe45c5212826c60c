-- A scenario with the replies of its calls after them, line by line.
use Rattle.std.specs.Prelude.{ℕ, ◌+◌, ◌-◌, ◌==◌, ◌&&◌, ◌||◌, not, Bool, true, false, List, [], ◌∷◌, ◌++◌, length, take, drop, codes, nat_eq, slice_index, is_none, if◌then◌else◌, Option, Some, None}
use Rattle.std.specs.List.{flat_map, list_all, list_any, slice_split}
use Rattle.std.specs.Option.{unwrap_or}
use Rattle.std.specs.Str.{bytes_eq}
use Rattle.line_steps.specs.ResolvedLines.{ResolvedLine, resolved_line}
use Rattle.line_steps.specs.ResolvedLines.ResolvedLine.{Call}
use Rattle.line_steps.specs.RunPosition.{RunPosition}
use Rattle.own_model.specs.Listed.{Listed}
use Rattle.own_model.specs.World.{World}
use Rattle.line_friendly.specs.Expected.{meets}
use Rattle.line_friendly.specs.Friendly.{arrow_of, end_of}
use Rattle.line_names.specs.Filling.{is_dollar}
use Rattle.run_record.specs.RecordedCalls.{Event, RecordedCall, Meeting, events, first_recording}
use Rattle.run_record.specs.RecordedCalls.Meeting.{Logs, Hears}

-- ---- lines as they are written

-- a line as it is
abbrev pub kept : List ℕ → List ℕ
kept line = line ++ 10 ∷ []

-- a byte of a line that is filled with names, in which `$$` is one `$`
abbrev pub escaped_byte : ℕ → List ℕ
escaped_byte b = if is_dollar b then 36 ∷ 36 ∷ [] else b ∷ []

-- the end of a line: a newline, after a carriage return if the line has one
abbrev pub ending_of : List ℕ → List ℕ
ending_of line = if slice_index line (length line - 1) == 13 then 13 ∷ 10 ∷ [] else 10 ∷ []

-- a byte of finished log lines, each as one that is expected; a line begins with it, or not
abbrev pub byte_of_lines : List ℕ → Bool → ℕ → List ℕ
byte_of_lines ending begins b =
    (if begins then codes "=> " else []) ++ (if b == 10 then ending else escaped_byte b)

abbrev pub expected_lines : List ℕ → Bool → List ℕ → List ℕ
expected_lines ending begins [] = []
expected_lines ending begins (b ∷ bs) = byte_of_lines ending begins b ++ expected_lines ending (b == 10) bs

-- the end of a line's call: before its expectation and its comment
abbrev pub call_end : List ℕ → ℕ
call_end line = unwrap_or (arrow_of (take (end_of line) line)) (end_of line)

-- a line with this expected reply in place of its own, and its other bytes unchanged
unfoldable pub expecting : List ℕ → List ℕ → List ℕ
expecting line reply = take (call_end line) line ++ codes " => " ++ reply ++ drop (end_of line) line

-- whether a reply refuses, as it is expected
unfoldable pub verdict : List ℕ → List ℕ
verdict reply = if meets reply (codes "refused") then codes "refused" else codes "granted"

-- ---- what holds in one step

-- a line is this call, and its expectation matches the reply
abbrev pub is_met_by : RecordedCall → ResolvedLine → Bool
is_met_by hearing (Call filled call (Some expected)) = bytes_eq call hearing.call && meets hearing.reply expected
is_met_by hearing resolved = false

-- a line in place of this one holds, with the names of then
abbrev pub is_met : RecordedCall → List ℕ → Bool
is_met hearing line = is_met_by hearing (resolved_line None hearing.known line)

-- and so are these log lines before it
unfoldable pub holds : List ℕ → List ℕ → RecordedCall → Bool
holds lines line hearing = bytes_eq hearing.lines lines && is_met hearing line

-- ---- the record of all steps of one line

-- the first reply and its log lines; whether a reply is expected, binds a name, and isn't understood, in any of them; and whether the
-- line unchanged, with that reply, or with `granted` or `refused`, holds in all of them
pub record LineRecord : Type 0 where
  pub reply : List ℕ
  pub lines : List ℕ
  pub expects : Bool
  pub binds : Bool
  pub lost : Bool
  pub own : Bool
  pub exact : Bool
  pub told : Bool

abbrev pub note_of : List ℕ → RecordedCall → List RecordedCall → LineRecord
note_of line first hearings = record {
  reply = first.reply;
  lines = first.lines;
  expects = list_any (λ (h : RecordedCall). h.expects) hearings;
  binds = list_any (λ (h : RecordedCall). h.binds) hearings;
  lost = list_any (λ (h : RecordedCall). h.lost) hearings;
  own = list_all (holds first.lines line) hearings;
  exact = list_all (holds first.lines (expecting line first.reply)) hearings;
  told = list_all (holds first.lines (expecting line (verdict first.reply))) hearings;
}

-- the line that is written in place of this one, if there is one: none if a reply is expected already, unless `all`, or if a call isn't
-- understood; if a reply binds a name the line unchanged; else with its reply, or with `granted` or `refused`
abbrev pub anew_unbound : List ℕ → LineRecord → Option (List ℕ)
anew_unbound line note =
    if note.exact then Some (expecting line note.reply)
    else (if note.told then Some (expecting line (verdict note.reply)) else None)

unfoldable pub anew : Bool → List ℕ → LineRecord → Option (List ℕ)
anew all line note =
    if (note.expects && not all) || note.lost then None
    else (if note.binds then (if note.own then Some line else None) else anew_unbound line note)

-- after its log lines; or it is unchanged
abbrev pub written_anew : List ℕ → List ℕ → Option (List ℕ) → List ℕ
written_anew line lines (Some new) = expected_lines (ending_of line) true lines ++ kept new
written_anew line lines None = kept line

-- the line and its expectation are unchanged
abbrev pub stays : Bool → List ℕ → LineRecord → Bool
stays all line note = note.expects && is_none (anew all line note)

-- ---- all lines

-- a line of a scenario, whether it is a log line in a step, and the record of its steps as a call
pub record LineMark : Type 0 where
  pub line : List ℕ
  pub logs : Bool
  pub note : Option LineRecord

abbrev pub hears : Meeting → List RecordedCall
hears Logs = []
hears (Hears hearing) = hearing ∷ []

abbrev pub is_logged : Meeting → Bool
is_logged Logs = true
is_logged (Hears hearing) = false

-- the results of the line of a number
abbrev pub recorded_calls_at : ℕ → List Event → List RecordedCall
recorded_calls_at number events = flat_map (λ (e : Event). if nat_eq e.number number then hears e.meeting else []) events

abbrev pub logs_at : ℕ → List Event → Bool
logs_at number events = list_any (λ (e : Event). nat_eq e.number number && is_logged e.meeting) events

abbrev pub noted : List ℕ → List RecordedCall → Option LineRecord
noted line [] = None
noted line (first ∷ more) = Some (note_of line first (first ∷ more))

abbrev pub mark_of : ℕ → List Event → List ℕ → LineMark
mark_of number events line = record {
  line = line;
  logs = logs_at number events;
  note = noted line (recorded_calls_at number events);
}

-- of lines from a number on
abbrev pub marks_of : ℕ → List Event → List (List ℕ) → List LineMark
marks_of number events [] = []
marks_of number events (line ∷ lines) = mark_of number events line ∷ marks_of (number + 1) events lines

-- for a line whether its call stays, or else the next one
abbrev pub stays_by : Bool → LineMark → Option LineRecord → Bool → Bool
stays_by all mark (Some note) later = stays all mark.line note
stays_by all mark None later = later

-- whether the next call stays as it was, and with it the log lines that are expected of it
abbrev pub stays_behind : Bool → List LineMark → Bool
stays_behind all [] = false
stays_behind all (mark ∷ marks) = stays_by all mark mark.note (stays_behind all marks)

-- a line: with `all` a log line is left out, unless its call stays
abbrev pub written_by : Bool → Bool → LineMark → Option LineRecord → List ℕ
written_by all later mark (Some note) = written_anew mark.line note.lines (anew all mark.line note)
written_by all later mark None = if (mark.logs && all) && not later then [] else kept mark.line

abbrev pub written_lines : Bool → List LineMark → List ℕ
written_lines all [] = []
written_lines all (mark ∷ marks) =
    written_by all (stays_behind all marks) mark mark.note ++ written_lines all marks

-- ---- the whole text

-- the pieces of a text between its newlines
abbrev pub pieces_of : List ℕ → List (List ℕ)
pieces_of text = slice_split (λ b. b == 10) text

abbrev pub without_last : List ℕ → List ℕ
without_last text = take (length text - 1) text

-- all results of a text that is run from a position on
abbrev pub met : Bool → Listed → World → RunPosition → List ℕ → List Event
met all list world start played = events all (first_recording list world start) (pieces_of played)

-- a scenario as it is recorded, run on the machine of a list from a world on; its last line has a newline only if it had one
abbrev pub recorded : Bool → Listed → World → RunPosition → List ℕ → List ℕ → List ℕ
recorded all list world start played text =
    without_last (written_lines all (marks_of 1 (met all list world start played) (pieces_of text)))
