-- The records so far, and those of the shapes to come.
use Rattle.std.proofs.Common.{◌≡◌, ◌++◌, drop, map}
use Rattle.view_records.specs.Lists.{records_of}
use Rattle.list_diff.specs.LabelRecords.{label_records, shape_record}
use Rattle.list_diff.proofs.label_sets.label_records.Given as goal

abbrev pub invariant-loop-shape : goal.invariant-loop-shape
invariant-loop-shape l = records_of l.records ++ map shape_record (drop l.shape-index l.labels.shapes.items) ≡ label_records l.labels
