-- The rules of the hops left are still to come.
use Rattle.std.proofs.Common.{◌≡◌, ◌++◌, drop, Some}
use Rattle.view_coverage.specs.Rules.{rules_from}
use Rattle.view_coverage.proofs.deciding_rules.add_rules.Given as goal

abbrev pub invariant-loop-hop : goal.invariant-loop-hop
invariant-loop-hop l =
    l.initial.rules.items ++ rules_from l.list (Some l.client) l.hops
    ≡ l.rules.items ++ rules_from l.list l.asks (drop l.hop-index l.hops)
