-- The records so far, and those of the remarks to come.
use Rattle.std.proofs.Common.{◌≡◌, ◌++◌, drop, map}
use Rattle.view_records.specs.Lists.{records_of}
use Rattle.cli_lists.specs.CheckDocuments.{remark_record}
use Rattle.cli_lists.proofs.check_records.add_remarks.Given as goal

abbrev pub invariant-loop-remark : goal.invariant-loop-remark
invariant-loop-remark l =
    records_of l.records ++ map (remark_record l.path) (drop l.remark-index l.remarks)
    ≡ records_of l.fn.records ++ map (remark_record l.path) l.remarks
