-- The values that contracts see for answered calls, records and marks.
use Rattle.std.specs.Prelude.{◌≡◌, ℕ, Bool, List, ◌++◌, map, is_some, if◌then◌else◌, Option, Some, None}
use Rattle.std.specs.Option.{option_copied, option_map}
use Rattle.line_names.specs.Filling.{FilledLine}
use Rattle.line_steps.specs.ResolvedLines.{resolved_line}
use Rattle.line_steps.specs.ResolvedLines.ResolvedLine.{Call}
use Rattle.line_steps.specs.RunPosition.{RunPosition}
use Rattle.own_model.specs.Listed.{Listed}
use Rattle.own_model.specs.World.{World}
use Rattle.run_record.specs.RecordedCalls.{RecordedCall, RecordingState}
use Rattle.run_record.specs.Recorded.{LineMark, LineRecord, expecting, verdict}
use Rattle.run_record.specs.declared.recorded_call.RecordedCall.{RecordedCall as Heard}
use Rattle.run_record.specs.declared.line_marks.LineMark.{LineMark as Marked}
use Rattle.run_record.specs.declared.line_record.LineRecord.{LineRecord as Noted}
use Rattle.run_record.specs.declared.line_record.RecordedForm.{RecordedForm}
use Rattle.run_record.specs.declared.line_record.RecordedForm.TheVariants.{Stays, Own, Exact, Told}
use Rattle.run_record.specs.declared.recorded_text.RecordedText.{RecordedText}

abbrev pub recorded_call_view : Heard → RecordedCall
recorded_call_view heard = record {
  known = heard.known.now;
  binds = heard.binds;
  expects = is_some (option_copied heard.expected);
  lost = heard.lost;
  call = heard.call.now;
  reply = heard.reply.now;
  lines = heard.lines.now;
}

-- a call is the one of its line, with the values of names before it
abbrev pub IsOfLine : Heard → Type 0
IsOfLine heard =
    (filled : FilledLine)
    × (resolved_line None heard.known.now heard.line.now ≡ Call filled heard.call.now (option_copied heard.expected))

abbrev pub note_view : Noted → LineRecord
note_view note = record {
  reply = note.reply.items;
  lines = note.lines.items;
  expects = note.expects;
  binds = note.binds;
  lost = note.lost;
  own = note.own;
  exact = note.exact;
  told = note.told;
}

abbrev pub mark_view : Marked → LineMark
mark_view mark = record {
  line = mark.line.now;
  logs = mark.logs;
  note = option_map note_view mark.note;
}

abbrev pub marks_view : List Marked → List LineMark
marks_view marks = map mark_view marks

-- the position of a run, on the machine of a list in a world
abbrev pub recording_in : Listed → RunPosition → Bool → World → RecordingState
recording_in list position awaits world = record { list = list; position = position; world = world; awaits = awaits }

-- the line that is written by a form, if it isn't the one that it was
abbrev pub line_by : List ℕ → LineRecord → RecordedForm → Option (List ℕ)
line_by line note Stays = None
line_by line note Own = Some line
line_by line note Exact = Some (expecting line note.reply)
line_by line note Told = Some (expecting line (verdict note.reply))

-- what is written of a scenario so far, if the next call stays, or if it doesn't
abbrev pub settled : RecordedText → Bool → List ℕ
settled sheet stays = sheet.text.items ++ (if stays then sheet.staying.items else sheet.going.items)
