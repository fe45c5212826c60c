use Rattle.std.proofs.Common.{◌≡◌, ◌++◌, drop, map}
use Rattle.std.specs.Prelude.{All}
use Rattle.std.specs.List.{enumerate_from}
use Rattle.list_tree.specs.Nodes.{IsNode, numbered}
use Rattle.list_tree.proofs.tree.ListTree.of.Given as goal

abbrev pub invariant-loop-number : goal.invariant-loop-number
invariant-loop-number l = record {
  entries : map numbered l.nodes.items ++ enumerate_from l.number (drop l.number l.list.entries) ≡ enumerate_from 0 l.list.entries;
  each : All (IsNode l.list) l.nodes.items;
}
