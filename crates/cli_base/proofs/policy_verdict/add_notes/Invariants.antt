use Rattle.std.proofs.Common.{map}
use Rattle.list_policy.specs.Line.{line_at}
use Rattle.list_policy.specs.Verdict.{breach_place}
use Rattle.cli_base.specs.PolicyVerdict.{note_place}
use Rattle.cli_base.proofs.VerdictLemmas.{NotedTo}
use Rattle.cli_base.proofs.policy_verdict.add_notes.Given as goal

abbrev pub invariant-loop-place : goal.invariant-loop-place
invariant-loop-place l =
    NotedTo (breach_place (line_at l.line)) l.breaches (map note_place l.initial.broken.items) l.place l.broken.items
