use Rattle.std.proofs.Common.{◌≡◌, drop}
use Rattle.list_findings.specs.Views.{with_rules}
use Rattle.list_findings.proofs.decision_views.add_rules.Given as goal

abbrev pub invariant-loop-rule : goal.invariant-loop-rule
invariant-loop-rule l = with_rules l.services.items (drop l.rule-index l.rules) ≡ with_rules l.initial.services.items l.rules
