use Rattle.std.proofs.Common.{◌≡◌, ◌++◌, drop, map}
use Rattle.std.specs.Prelude.{All}
use Rattle.std.specs.List.{flat_map}
use Rattle.list_reach.specs.Paths.{is_chosen}
use Rattle.list_reach.specs.Rows.{asking_rows, row_of}
use Rattle.list_reach.specs.Table.{IsTrue}
use Rattle.list_reach.proofs.reach_table.ReachTable.narrowed.Given as goal

abbrev pub invariant-loop-place : goal.invariant-loop-place
invariant-loop-place l = record {
  added :
      map row_of l.cells.items ++ flat_map (asking_rows l.list (is_chosen l.chosen.to.items)) (drop l.place l.asked.items)
      ≡ flat_map (asking_rows l.list (is_chosen l.chosen.to.items)) l.asked.items;
  told : All (IsTrue l.list) l.cells.items;
}
