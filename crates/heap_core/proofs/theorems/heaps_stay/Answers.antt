-- Each law is a lemma that callers cite as well.
use Rattle.heap_core.proofs.StayLemmas.{heap_stays, heap_stays_beside}
use Rattle.heap_core.proofs.theorems.heaps_stay.Goals as goal

pub returns-clause-own : goal.returns-clause-own
returns-clause-own c = heap_stays

pub returns-clause-beside : goal.returns-clause-beside
returns-clause-beside c = heap_stays_beside
