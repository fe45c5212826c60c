-- What is left has the newest.
use Rattle.std.proofs.Common.{◌≡◌, ◌≤◌, length, map, take}
use Rattle.line_names.specs.Bindings.{binding_of}
use Rattle.line_names.specs.NameTable.{newest}
use Rattle.line_names.proofs.name_table.newest.Given as goal

abbrev pub invariant-loop-at : goal.invariant-loop-at
invariant-loop-at l = record {
  within : l.at ≤ length l.bindings;
  newest : newest l.name (map binding_of l.bindings) ≡ newest l.name (map binding_of (take l.at l.bindings));
}

abbrev pub decreases-loop-at : goal.decreases-loop-at
decreases-loop-at l = l.at
