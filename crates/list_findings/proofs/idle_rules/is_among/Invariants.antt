use Rattle.std.proofs.Common.{◌≡◌, drop}
use Rattle.list_findings.specs.Idle.{is_among}
use Rattle.list_findings.proofs.idle_rules.is_among.Given as goal

abbrev pub invariant-loop-rule : goal.invariant-loop-rule
invariant-loop-rule l =
    is_among l.list l.owner l.place l.number (drop l.rule-index l.rules) ≡ is_among l.list l.owner l.place l.client l.rules
