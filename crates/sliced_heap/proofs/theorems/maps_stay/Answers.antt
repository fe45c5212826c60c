-- Each law is a lemma that callers cite as well.
use Rattle.sliced_heap.proofs.HeapLaws.{empty_map, map_stays, map_stays_for_payer}
use Rattle.sliced_heap.proofs.theorems.maps_stay.Goals as goal

pub returns-clause-empty : goal.returns-clause-empty
returns-clause-empty c = empty_map

pub returns-clause-lengths : goal.returns-clause-lengths
returns-clause-lengths c = map_stays

pub returns-clause-payer : goal.returns-clause-payer
returns-clause-payer c = map_stays_for_payer
