use Rattle.std.proofs.Common.{◌≡◌, ◌+◌, ◌++◌, drop, map}
use Rattle.list_policy.specs.Components.{fault_at}
use Rattle.list_policy.specs.Line.{line_at}
use Rattle.list_policy.specs.Reading.{faults_from, lines_from}
use Rattle.list_policy.proofs.policy_text.Policy.of_lines.Given as goal

-- what was read so far and what the texts that are left say
abbrev pub invariant-loop-place : goal.invariant-loop-place
invariant-loop-place l =
    (lines_from l.list 1 (map (λ text. text.now) l.texts.items)
    ≡ map line_at l.policy.lines.items ++ lines_from l.list (l.place + 1) (map (λ text. text.now) (drop l.place l.texts.items)))
    × (faults_from l.list 1 (map (λ text. text.now) l.texts.items)
    ≡ map fault_at l.policy.faults.items ++ faults_from l.list (l.place + 1) (map (λ text. text.now) (drop l.place l.texts.items)))
