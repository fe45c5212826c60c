-- A new block of the heap is zeros where none was.
use Rattle.own_model.proofs.HeapNewLemmas.{heap_new_zero}
use Rattle.own_model.proofs.heap.new_heap_blocks_are_zero.Goals as goal

pub returns : goal.returns
returns c = heap_new_zero
