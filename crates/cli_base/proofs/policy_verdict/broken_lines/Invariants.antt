use Rattle.std.proofs.Common.{drop, map}
use Rattle.list_policy.specs.Line.{line_at}
use Rattle.list_policy.proofs.VerdictLemmas.{AreBrokenUpTo}
use Rattle.cli_base.specs.PolicyVerdict.{note_place}
use Rattle.cli_base.proofs.policy_verdict.broken_lines.Given as goal

abbrev pub invariant-loop-place : goal.invariant-loop-place
invariant-loop-place l =
    AreBrokenUpTo l.list (map line_at l.lines) (map line_at (drop l.place l.lines)) (map note_place l.broken.items)
