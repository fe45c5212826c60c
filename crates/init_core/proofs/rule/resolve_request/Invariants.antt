use Rattle.std.proofs.Common.{◌≡◌, drop}
use Rattle.own_model.specs.Routes.{decided}
use Rattle.init_core.proofs.rule.resolve_request.Given as goal

abbrev pub invariant-loop-rule : goal.invariant-loop-rule
invariant-loop-rule l = decided l.rules l.service l.label ≡ decided (drop l.rule-index l.rules) l.service l.label
