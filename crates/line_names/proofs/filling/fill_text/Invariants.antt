-- What is left to fill.
use Rattle.std.proofs.Common.{◌≡◌, ◌+◌, ◌-◌, ◌≤◌, drop, length}
use Rattle.line_names.specs.Filling.{filled_from}
use Rattle.line_names.specs.Views.{made_view, zone_view}
use Rattle.line_names.proofs.filling.fill_text.Given as goal

abbrev pub invariant-loop-at : goal.invariant-loop-at
invariant-loop-at l = record {
  within : l.at ≤ length l.text;
  filled :
      filled_from l.known (zone_view l.zone) 0 l.place (made_view l.initial.room l.initial.holes.items) l.text
      ≡ filled_from l.known (zone_view l.zone) 0 (l.place + l.at) (made_view l.room l.holes.items) (drop l.at l.text);
}

abbrev pub decreases-loop-at : goal.decreases-loop-at
decreases-loop-at l = length l.text - l.at
