use Rattle.heap_core.proofs.heap.Heap.add_chunk.Given as goal

abbrev pub ghosts-add : goal.ghosts-add
ghosts-add a = record { name = a.blank.name; parts = a.blank.parts }
