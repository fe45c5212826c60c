-- The records so far, and those of the decisions to come.
use Rattle.std.proofs.Common.{◌≡◌, ◌++◌, drop, map}
use Rattle.std.specs.List.{flat_map}
use Rattle.list_reach.specs.declared.script_decisions.ScriptDecisions.{ScriptDecisions}
use Rattle.list_tree.specs.Records.{decision_record, node_records}
use Rattle.view_records.specs.Lists.{records_of}
use Rattle.list_tree.proofs.records.add_node.Given as goal

abbrev pub invariant-loop-one : goal.invariant-loop-one
invariant-loop-one l =
    records_of l.records ++ flat_map (λ (one : ScriptDecisions). map (decision_record l.list one) one.decisions) (drop l.one-index l.node.requests.items)
    ≡ records_of l.fn.records ++ node_records l.list l.node
