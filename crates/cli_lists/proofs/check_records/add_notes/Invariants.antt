-- The records so far, and those of the notes to come.
use Rattle.std.proofs.Common.{◌≡◌, ◌++◌, drop, map}
use Rattle.view_records.specs.Lists.{records_of}
use Rattle.cli_lists.specs.CheckDocuments.{note_record}
use Rattle.cli_lists.proofs.check_records.add_notes.Given as goal

abbrev pub invariant-loop-noted : goal.invariant-loop-noted
invariant-loop-noted l =
    records_of l.records ++ map (note_record l.kind l.path) (drop l.noted-index l.notes)
    ≡ records_of l.fn.records ++ map (note_record l.kind l.path) l.notes
