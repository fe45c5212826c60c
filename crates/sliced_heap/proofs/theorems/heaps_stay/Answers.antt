-- Each law is a lemma that callers cite as well.
use Rattle.sliced_heap.proofs.HeapLaws.{heap_stays, heap_stays_among, heap_stays_elsewhere, heap_stays_beside}
use Rattle.sliced_heap.proofs.theorems.heaps_stay.Goals as goal

pub returns-clause-own : goal.returns-clause-own
returns-clause-own c = heap_stays

pub returns-clause-among : goal.returns-clause-among
returns-clause-among c = heap_stays_among

pub returns-clause-elsewhere : goal.returns-clause-elsewhere
returns-clause-elsewhere c = heap_stays_elsewhere

pub returns-clause-beside : goal.returns-clause-beside
returns-clause-beside c = heap_stays_beside
