use Rattle.std.proofs.Common.{drop, map}
use Rattle.serde_json.specs.View.{view}
use Rattle.list_parser.proofs.KindLemmas.{AreReadUpTo}
use Rattle.list_parser.proofs.kinds.kinds_in.Given as goal

abbrev pub invariant-loop-value : goal.invariant-loop-value
invariant-loop-value l = AreReadUpTo l.kinds.items (map view (drop l.value-index l.values)) (map view l.values)
