-- What is left of the lines is still to be written.
use Rattle.std.proofs.Common.{◌≡◌, ◌++◌, drop}
use Rattle.run_record.specs.Recorded.{stays_behind, written_lines}
use Rattle.run_record.specs.Views.{marks_view, settled}
use Rattle.run_record.proofs.line_marks.LineMarks.write.Given as goal

abbrev pub invariant-loop-mark : goal.invariant-loop-mark
invariant-loop-mark l = record {
  all : l.sheet.all ≡ l.all;
  written :
      written_lines l.all (marks_view l.self.marks.items)
      ≡ settled l.sheet (stays_behind l.all (marks_view (drop l.mark-index l.self.marks.items)))
      ++ written_lines l.all (marks_view (drop l.mark-index l.self.marks.items));
}
