-- The records so far, and those of the findings to come.
use Rattle.std.proofs.Common.{◌≡◌, ◌++◌, drop, map}
use Rattle.view_records.specs.Lists.{records_of}
use Rattle.cli_lists.specs.CheckDocuments.{finding_record}
use Rattle.cli_lists.proofs.check_records.add_review.Given as goal

abbrev pub invariant-loop-finding : goal.invariant-loop-finding
invariant-loop-finding l =
    records_of l.records ++ map (finding_record l.path) (drop l.finding-index l.review.findings.items)
    ≡ records_of l.fn.records ++ map (finding_record l.path) l.review.findings.items
