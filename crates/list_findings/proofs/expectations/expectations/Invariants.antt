use Rattle.std.proofs.Common.{◌≡◌, ◌++◌, drop, map}
use Rattle.std.specs.List.{flat_map}
use Rattle.list_findings.specs.Expectations.{expected_in}
use Rattle.list_findings.specs.Objects.{seen_part}
use Rattle.list_findings.proofs.expectations.expectations.Given as goal

abbrev pub invariant-loop-part : goal.invariant-loop-part
invariant-loop-part l =
    l.expected.items ++ flat_map expected_in (map seen_part (drop l.part-index l.parts)) ≡ flat_map expected_in (map seen_part l.parts)
