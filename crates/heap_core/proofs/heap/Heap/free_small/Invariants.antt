use Rattle.heap_core.proofs.heap.Heap.free_small.Given as goal

abbrev pub ghosts-give : goal.ghosts-give
ghosts-give a = record { name = a.blank.name; parts = a.blank.parts }
