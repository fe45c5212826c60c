use Rattle.std.proofs.Common.{◌<◌}
use Rattle.list_labels.specs.KnownLabels.{AddsLabels, is_tail_below}
use Rattle.list_labels.proofs.known_labels.add_tails.Given as goal

abbrev pub invariant-loop-cut : goal.invariant-loop-cut
invariant-loop-cut l = record {
  some : 0 < l.cut;
  added : AddsLabels (is_tail_below l.before l.suffix l.cut) l.initial.known.items l.known.items;
}
