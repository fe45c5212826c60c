-- One pair more that is reached.
use Rattle.std.proofs.Common.{◌++◌, map}
use Rattle.std.specs.List.{flat_map}
use Rattle.view_records.proofs.RecordLemmas.{records_next}
use Rattle.view_records.specs.Lists.{records_of}
use Rattle.list_diff.specs.Breaches.{change_at}
use Rattle.list_diff.specs.ReachRecords.{reach_record}
use Rattle.list_diff.specs.Records.{breach_record, difference_records, need_record, reply_records}
use Rattle.list_diff.specs.declared.policy_breaches.BreachChange.{BreachChange}
use Rattle.list_diff.proofs.records.difference_documents.Goals as goal

pub loop-reached-preserved : goal.loop-reached-preserved
loop-reached-preserved c =
    let found = c.args.found.now in
    records_next reach_record found.leads.now c.loop-reached.reached-index c.reached-item.result (records_of c.loop-reached.records)
    (records_of c.add_reach.new.records)
    (map (λ (change : BreachChange). breach_record (change_at change)) found.breaches.now
    ++ (map need_record found.lacks.now ++ flat_map reply_records found.replies.now))
    (difference_records found) c.loop-reached-test.true c.reached-item.is c.in_ok-add_reach.ensures c.loop-reached.invariant
