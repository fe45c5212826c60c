-- The records so far, and those of the components to come.
use Rattle.std.proofs.Common.{◌≡◌, ◌++◌, drop}
use Rattle.std.specs.List.{flat_map}
use Rattle.list_tree.specs.Records.{node_records, tree_records}
use Rattle.view_records.specs.Lists.{records_of}
use Rattle.list_tree.proofs.tree.ListTree.documents.Given as goal

abbrev pub invariant-loop-node : goal.invariant-loop-node
invariant-loop-node l =
    records_of l.records ++ flat_map (node_records l.list) (drop l.node-index l.self.nodes.items) ≡ tree_records l.self
