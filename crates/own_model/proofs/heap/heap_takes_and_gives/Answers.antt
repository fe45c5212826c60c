-- The best hole after growth, and giving back what was taken.
use Rattle.own_model.proofs.HeapBestFitLemmas.{new_hole_best, giving_undoes}
use Rattle.own_model.proofs.heap.heap_takes_and_gives.Goals as goal

pub returns-clause-grown : goal.returns-clause-grown
returns-clause-grown c = new_hole_best

pub returns-clause-back : goal.returns-clause-back
returns-clause-back c = giving_undoes
