use Rattle.std.proofs.Common.{◌≡◌, ◌++◌, drop}
use Rattle.std.specs.List.{flat_map}
use Rattle.list_diff.specs.Reaches.{new_pairs}
use Rattle.list_diff.proofs.reach_changes.add_new.Given as goal

-- the pairs so far, and those of the cells that are left
abbrev pub invariant-loop-cell : goal.invariant-loop-cell
invariant-loop-cell l =
    l.pairs.items ++ flat_map (new_pairs l.before l.after) (drop l.cell-index l.after.cells.now)
    ≡ l.initial.pairs.items ++ flat_map (new_pairs l.before l.after) l.after.cells.now
