use Rattle.std.proofs.Common.{◌≡◌, ◌++◌, drop, map}
use Rattle.own_model.specs.Listed.{own_rule_for, services_of}
use Rattle.init_core.proofs.resolve.add_rule.Given as goal

-- what was resolved, and the rules for the services to come, are those for all
abbrev pub invariant-loop-number : goal.invariant-loop-number
invariant-loop-number l =
    l.resolved.items ++ map (own_rule_for l.list.entries l.init l.rule) (drop l.number (services_of l.list.entries))
    ≡ l.initial.resolved.items ++ map (own_rule_for l.list.entries l.init l.rule) (services_of l.list.entries)
