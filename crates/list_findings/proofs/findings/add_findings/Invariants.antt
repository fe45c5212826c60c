use Rattle.std.proofs.Common.{◌≡◌, ◌++◌, drop}
use Rattle.std.specs.List.{enumerate_from, flat_map}
use Rattle.list_findings.specs.Findings.{entry_findings}
use Rattle.list_findings.proofs.findings.add_findings.Given as goal

-- the findings so far and those of the other entries
abbrev pub invariant-loop-number : goal.invariant-loop-number
invariant-loop-number l =
    l.found.items ++ flat_map (entry_findings l.list) (enumerate_from l.number (drop l.number l.entries))
    ≡ l.initial.found.items ++ flat_map (entry_findings l.list) (enumerate_from 0 l.entries)
