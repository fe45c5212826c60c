-- What is left of the log lines is still to be written.
use Rattle.std.proofs.Common.{◌≡◌, ◌++◌, true, drop}
use Rattle.run_record.specs.Recorded.{expected_lines}
use Rattle.run_record.proofs.writing.put_expected.Given as goal

abbrev pub invariant-loop-byte : goal.invariant-loop-byte
invariant-loop-byte l =
    l.initial.text.items ++ expected_lines l.ending true l.lines
    ≡ l.text.items ++ expected_lines l.ending l.begins (drop l.byte-index l.lines)
