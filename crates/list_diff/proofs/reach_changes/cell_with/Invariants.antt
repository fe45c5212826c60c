use Rattle.std.proofs.Common.{◌≡◌, drop}
use Rattle.std.specs.Prelude.{find}
use Rattle.list_diff.specs.Reaches.{is_cell}
use Rattle.list_diff.proofs.reach_changes.cell_with.Given as goal

-- the cell is among those that are left
abbrev pub invariant-loop-cell : goal.invariant-loop-cell
invariant-loop-cell l =
    find (is_cell l.client l.service l.server) (drop l.cell-index l.cells) ≡ find (is_cell l.client l.service l.server) l.cells
