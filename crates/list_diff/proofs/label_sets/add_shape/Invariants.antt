-- The records so far, and those of the patterns to come.
use Rattle.std.proofs.Common.{◌≡◌, ◌++◌, drop, map}
use Rattle.view_records.specs.Lists.{records_of}
use Rattle.list_diff.specs.LabelRecords.{plain_record}
use Rattle.list_diff.proofs.label_sets.add_shape.Given as goal

abbrev pub invariant-loop-pattern : goal.invariant-loop-pattern
invariant-loop-pattern l =
    records_of l.except ++ map plain_record (drop l.pattern-index l.shape.except.items) ≡ map plain_record l.shape.except.items
