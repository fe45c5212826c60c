use Rattle.heap_core.proofs.heap.Heap.take_hole.Given as goal

abbrev pub ghosts-take : goal.ghosts-take
ghosts-take a = record { name = a.blank.name; parts = a.blank.parts }
