use Rattle.std.proofs.Common.{◌≡◌, ◌++◌, drop}
use Rattle.std.specs.List.{flat_map}
use Rattle.list_diff.specs.Reaches.{old_pairs}
use Rattle.list_diff.proofs.reach_changes.add_old.Given as goal

-- the pairs so far, and those of the cells that are left
abbrev pub invariant-loop-cell : goal.invariant-loop-cell
invariant-loop-cell l =
    l.pairs.items ++ flat_map (old_pairs l.before) (drop l.cell-index l.before.cells.now)
    ≡ l.initial.pairs.items ++ flat_map (old_pairs l.before) l.before.cells.now
