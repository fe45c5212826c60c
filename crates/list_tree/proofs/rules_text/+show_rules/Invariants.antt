use Rattle.std.specs.Prelude.{length}
use Rattle.list_tree.proofs.rules_text.+show_rules.Given as goal

abbrev pub decreases-show_rules : goal.decreases-show_rules
decreases-show_rules g l = length l.places.now
