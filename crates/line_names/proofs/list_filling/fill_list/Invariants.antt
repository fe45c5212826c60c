-- What is left of the text is still to be filled.
use Rattle.std.proofs.Common.{◌≡◌, ◌-◌, ◌≤◌, drop, length, take}
use Rattle.line_names.specs.Lists.{filled, filled_from}
use Rattle.line_names.proofs.list_filling.fill_list.Given as goal

abbrev pub invariant-loop-at : goal.invariant-loop-at
invariant-loop-at l = (filled_from l.known (take l.at l.text) 0 l.made.items (drop l.at l.text) ≡ filled l.known l.text) × (l.at ≤ length l.text)

abbrev pub decreases-loop-at : goal.decreases-loop-at
decreases-loop-at l = length l.text - l.at
