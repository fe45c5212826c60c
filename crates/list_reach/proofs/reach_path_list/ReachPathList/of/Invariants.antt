use Rattle.std.proofs.Common.{◌≡◌, ◌++◌, drop, map}
use Rattle.std.specs.Prelude.{All}
use Rattle.std.specs.List.{flat_map}
use Rattle.list_reach.specs.AllPaths.{reached_by, reached_of}
use Rattle.list_reach.specs.Paths.{is_chosen}
use Rattle.list_reach.specs.Table.{IsReachPath}
use Rattle.list_reach.proofs.reach_path_list.ReachPathList.of.Given as goal

abbrev pub invariant-loop-place : goal.invariant-loop-place
invariant-loop-place l = record {
  added :
      map reached_by l.ways.items ++ flat_map (reached_of (is_chosen l.chosen.to.items)) (drop l.place l.found.items)
      ≡ flat_map (reached_of (is_chosen l.chosen.to.items)) l.found.items;
  told : All (IsReachPath l.list) l.ways.items;
}
