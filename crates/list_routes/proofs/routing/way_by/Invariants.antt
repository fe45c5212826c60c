use Rattle.std.proofs.Common.{◌≡◌, drop}
use Rattle.own_model.specs.Listed.{way_by}
use Rattle.list_routes.proofs.routing.way_by.Given as goal

abbrev pub invariant-loop-rule : goal.invariant-loop-rule
invariant-loop-rule l =
    way_by l.entries l.init l.rules l.service l.label ≡ way_by l.entries l.init (drop l.rule-index l.rules) l.service l.label
