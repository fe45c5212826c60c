use Rattle.std.proofs.Common.{◌≡◌, ◌++◌, drop, map}
use Rattle.std.specs.List.{enumerate_from, flat_map}
use Rattle.serde_json.specs.View.{view}
use Rattle.list_findings.specs.Objects.{rule_part, seen_part}
use Rattle.list_findings.proofs.object_parts.add_rules.Given as goal

abbrev pub invariant-loop-place : goal.invariant-loop-place
invariant-loop-place l =
    map seen_part l.parts.items ++ flat_map (rule_part l.owner l.steps) (enumerate_from l.place (drop l.place (map view l.rule-items)))
    ≡ map seen_part l.initial.parts.items ++ flat_map (rule_part l.owner l.steps) (enumerate_from 0 (map view l.rule-items))
