use Rattle.heap_core.proofs.heap.Heap.range_in_chunk.Given as goal

abbrev pub ghosts-look : goal.ghosts-look
ghosts-look a = record { name = a.blank.name; parts = a.blank.parts }
