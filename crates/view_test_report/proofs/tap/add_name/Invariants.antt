use Rattle.std.proofs.Common.{◌≡◌, ◌++◌, drop, flat_map}
use Rattle.view_test_report.specs.Tap.{named_byte}
use Rattle.view_test_report.proofs.tap.add_name.Given as goal

abbrev pub invariant-loop-byte : goal.invariant-loop-byte
invariant-loop-byte l = l.text.items ++ flat_map named_byte (drop l.byte-index l.name) ≡ l.initial.text.items ++ flat_map named_byte l.name
