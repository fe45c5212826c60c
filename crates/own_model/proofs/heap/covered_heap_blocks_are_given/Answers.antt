-- What no test refuses is given.
use Rattle.own_model.proofs.HeapNewLemmas.{heap_covered_given}
use Rattle.own_model.proofs.heap.covered_heap_blocks_are_given.Goals as goal

pub returns : goal.returns
returns c = λ machine s n h uses small limit accepted. heap_covered_given machine s n h uses small limit accepted
