use Rattle.std.proofs.Common.{◌≡◌, ◌++◌, drop, map}
use Rattle.std.specs.Prelude.{All}
use Rattle.std.specs.List.{flat_map}
use Rattle.list_reach.specs.AllPaths.{reached, reached_by, reached_of}
use Rattle.list_reach.specs.Paths.{is_chosen}
use Rattle.list_reach.specs.Table.{IsReachPath}
use Rattle.list_reach.proofs.reach_path_list.add_paths.Given as goal

abbrev pub invariant-loop-place : goal.invariant-loop-place
invariant-loop-place l = record {
  added :
      map reached_by l.ways.items
      ++ flat_map (reached (is_chosen l.chosen.to.items) l.one.client l.one.service.now) (drop l.place l.trails)
      ≡ map reached_by l.initial.ways.items ++ reached_of (is_chosen l.chosen.to.items) l.one;
  told : All (IsReachPath l.list) l.ways.items;
}
