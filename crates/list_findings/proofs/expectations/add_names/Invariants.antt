use Rattle.std.proofs.Common.{◌≡◌, ◌++◌, drop, map}
use Rattle.serde_json.specs.View.{view}
use Rattle.list_findings.specs.Expectations.{expected_at}
use Rattle.list_findings.proofs.expectations.add_names.Given as goal

abbrev pub invariant-loop-name : goal.invariant-loop-name
invariant-loop-name l =
    l.expected.items ++ map (expected_at l.part) (map view (drop l.name-index l.name-items)) ≡ l.initial.expected.items ++ map (expected_at l.part) (map view l.name-items)
