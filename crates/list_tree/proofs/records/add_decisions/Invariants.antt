-- The records so far, and those of the decisions to come.
use Rattle.std.proofs.Common.{◌≡◌, ◌++◌, drop, map}
use Rattle.list_tree.specs.Records.{decision_record}
use Rattle.view_records.specs.Lists.{records_of}
use Rattle.list_tree.proofs.records.add_decisions.Given as goal

abbrev pub invariant-loop-decision : goal.invariant-loop-decision
invariant-loop-decision l =
    records_of l.records ++ map (decision_record l.list l.one) (drop l.decision-index l.one.decisions)
    ≡ records_of l.fn.records ++ map (decision_record l.list l.one) l.one.decisions
