-- The record of all steps of a line, step by step.
use Rattle.std.specs.Prelude.{ℕ, ◌&&◌, ◌||◌, true, false, List}
use Rattle.run_record.specs.RecordedCalls.{RecordedCall}
use Rattle.run_record.specs.Recorded.{LineRecord, expecting, holds, verdict}

-- before the first step
abbrev pub record_of_first : RecordedCall → LineRecord
record_of_first first = record {
  reply = first.reply;
  lines = first.lines;
  expects = false;
  binds = false;
  lost = false;
  own = true;
  exact = true;
  told = true;
}

-- with one more step
abbrev pub record_of_more : List ℕ → LineRecord → RecordedCall → LineRecord
record_of_more line note hearing = record {
  reply = note.reply;
  lines = note.lines;
  expects = note.expects || hearing.expects;
  binds = note.binds || hearing.binds;
  lost = note.lost || hearing.lost;
  own = note.own && holds note.lines line hearing;
  exact = note.exact && holds note.lines (expecting line note.reply) hearing;
  told = note.told && holds note.lines (expecting line (verdict note.reply)) hearing;
}
