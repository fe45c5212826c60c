use Rattle.std.proofs.Common.{◌≡◌, ◌++◌, drop}
use Rattle.view_test_report.specs.Tap.{noted, noted_from}
use Rattle.view_test_report.proofs.tap.add_notes.Given as goal

abbrev pub invariant-loop-byte : goal.invariant-loop-byte
invariant-loop-byte l = l.text.items ++ noted_from l.begins (drop l.byte-index l.lines) ≡ l.initial.text.items ++ noted l.lines
