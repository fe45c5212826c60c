use Rattle.std.proofs.Common.{◌∙◌, arith}
use Rattle.layer_tests.proofs.CellLemmas.{cell_room, cell_put}
use Rattle.layer_tests.proofs.best_fit.CellsWordMemory.store.Goals as goal

pub overflow_mul-chunk : goal.overflow_mul-chunk
overflow_mul-chunk g c = let room = cell_room _ _ _ c.requires in omega arith

pub overflow_add-chunk : goal.overflow_add-chunk
overflow_add-chunk g c = let room = cell_room _ _ _ c.requires in omega arith

pub index_mut-requires : goal.index_mut-requires
index_mut-requires g c = let room = cell_room _ _ _ c.requires in omega arith

pub returns-clause-words : goal.returns-clause-words
returns-clause-words g c = cell_put c.args.self.now.words.items c.args.chunk c.args.offset c.args.value c.requires
