use Rattle.std.proofs.Common.{◌≡◌, ◌++◌, drop}
use Rattle.std.specs.List.{enumerate_from, flat_map}
use Rattle.list_findings.specs.Findings.{findings_at, rules_findings}
use Rattle.list_findings.proofs.findings.add_rules_findings.Given as goal

abbrev pub invariant-loop-place : goal.invariant-loop-place
invariant-loop-place l =
    l.found.items ++ flat_map (findings_at l.decided.list.now l.init l.owner l.rules) (enumerate_from l.place (drop l.place l.rules))
    ≡ l.initial.found.items ++ rules_findings l.decided.list.now l.init l.owner l.rules
