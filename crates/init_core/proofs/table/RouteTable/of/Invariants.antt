use Rattle.std.proofs.Common.{◌≡◌, map, take}
use Rattle.init_core.specs.Rows.{row_of}
use Rattle.init_core.proofs.table.RouteTable.of.Given as goal

-- the rows of so many entries
abbrev pub invariant-loop-client : goal.invariant-loop-client
invariant-loop-client l = l.rows.items ≡ map (row_of l.list) (take l.client l.list.entries)
