use Rattle.std.proofs.Common.{◌≡◌, [], drop, map}
use Rattle.serde_json.specs.View.{view}
use Rattle.list_parser.specs.FaultPlace.{all_after}
use Rattle.list_parser.specs.Rules.{with_rule}
use Rattle.list_parser.proofs.rule.read_rules.Given as goal

abbrev pub invariant-loop-item : goal.invariant-loop-item
invariant-loop-item l = all_after (with_rule l.field) [] (map view l.item-items) ≡ all_after (with_rule l.field) l.rules.items (map view (drop l.item-index l.item-items))
