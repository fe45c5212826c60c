use Rattle.std.proofs.Common.{◌≡◌, ◌++◌, drop}
use Rattle.list_labels.specs.Asked.{asked_by}
use Rattle.list_labels.proofs.label_condition.add_by.Given as goal

abbrev pub invariant-loop-rule : goal.invariant-loop-rule
invariant-loop-rule l =
    l.asked.items ++ asked_by l.service l.before (drop l.rule-index l.rules) ≡ l.initial.asked.items ++ asked_by l.service l.before l.rules
