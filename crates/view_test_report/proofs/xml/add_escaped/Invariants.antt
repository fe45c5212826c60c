use Rattle.std.proofs.Common.{◌≡◌, ◌++◌, drop, flat_map}
use Rattle.view_test_report.specs.Xml.{escaped_byte}
use Rattle.view_test_report.proofs.xml.add_escaped.Given as goal

abbrev pub invariant-loop-byte : goal.invariant-loop-byte
invariant-loop-byte l = l.text.items ++ flat_map escaped_byte (drop l.byte-index l.bytes) ≡ l.initial.text.items ++ flat_map escaped_byte l.bytes
