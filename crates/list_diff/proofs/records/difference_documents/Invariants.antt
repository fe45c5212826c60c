-- The records so far, and those of the differences to come.
use Rattle.std.proofs.Common.{◌≡◌, ◌++◌, drop, map}
use Rattle.std.specs.List.{flat_map}
use Rattle.view_records.specs.Lists.{records_of}
use Rattle.list_diff.specs.Breaches.{change_at}
use Rattle.list_diff.specs.EntryRecords.{change_record}
use Rattle.list_diff.specs.ReachRecords.{reach_record}
use Rattle.list_diff.specs.Records.{breach_record, difference_records, need_record, reply_records}
use Rattle.list_diff.specs.declared.policy_breaches.BreachChange.{BreachChange}
use Rattle.list_diff.proofs.records.difference_documents.Given as goal

abbrev pub invariant-loop-change : goal.invariant-loop-change
invariant-loop-change l =
    records_of l.records ++ (map (change_record l.found.before.now l.found.after.now) (drop l.change-index l.found.changes.now)
    ++ (map reach_record l.found.leads.now ++ (map (λ (change : BreachChange). breach_record (change_at change)) l.found.breaches.now
    ++ (map need_record l.found.lacks.now ++ flat_map reply_records l.found.replies.now))))
    ≡ difference_records l.found

abbrev pub invariant-loop-reached : goal.invariant-loop-reached
invariant-loop-reached l =
    records_of l.records ++ (map reach_record (drop l.reached-index l.found.leads.now)
    ++ (map (λ (change : BreachChange). breach_record (change_at change)) l.found.breaches.now
    ++ (map need_record l.found.lacks.now ++ flat_map reply_records l.found.replies.now)))
    ≡ difference_records l.found

abbrev pub invariant-loop-breach : goal.invariant-loop-breach
invariant-loop-breach l =
    records_of l.records ++ (map (λ (change : BreachChange). breach_record (change_at change)) (drop l.breach-index l.found.breaches.now)
    ++ (map need_record l.found.lacks.now ++ flat_map reply_records l.found.replies.now))
    ≡ difference_records l.found

abbrev pub invariant-loop-need : goal.invariant-loop-need
invariant-loop-need l =
    records_of l.records ++ (map need_record (drop l.need-index l.found.lacks.now) ++ flat_map reply_records l.found.replies.now)
    ≡ difference_records l.found

abbrev pub invariant-loop-reply : goal.invariant-loop-reply
invariant-loop-reply l = records_of l.records ++ flat_map reply_records (drop l.reply-index l.found.replies.now) ≡ difference_records l.found
