use Rattle.std.proofs.Common.{◌≡◌, ◌++◌, drop, map}
use Rattle.std.specs.Prelude.{All}
use Rattle.std.specs.List.{enumerate_from, flat_map}
use Rattle.list_reach.specs.Paths.{is_chosen}
use Rattle.list_reach.specs.Table.{IsTrue}
use Rattle.list_reach.specs.Rows.{provider_rows, row_of}
use Rattle.list_reach.proofs.reach_table.add_cells.Given as goal

abbrev pub invariant-loop-server : goal.invariant-loop-server
invariant-loop-server l = record {
  added :
      map row_of l.cells.items
      ++ flat_map (provider_rows (is_chosen l.chosen.to.items) l.found.client l.found.service.now) (enumerate_from l.server (drop l.server l.entries))
      ≡ map row_of l.initial.cells.items
      ++ flat_map (provider_rows (is_chosen l.chosen.to.items) l.found.client l.found.service.now) (enumerate_from 0 l.found.list.now.entries);
  told : All (IsTrue l.found.list.now) l.cells.items;
}
