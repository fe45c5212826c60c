use Rattle.std.proofs.Common.{◌≡◌, ◌++◌, drop}
use Rattle.own_model.specs.Listed.{own_rules}
use Rattle.init_core.proofs.resolve.rules_of.Given as goal

-- what was resolved, and what is to come of the rest, are all
abbrev pub invariant-loop-rule : goal.invariant-loop-rule
invariant-loop-rule l = l.resolved.items ++ own_rules l.list.entries l.init (drop l.rule-index l.rules) ≡ own_rules l.list.entries l.init l.rules
