use Rattle.std.proofs.Common.{◌+◌, ◌*◌, ◌/◌, ◌∙◌, arith}
use Rattle.std.proofs.lemmas.List.{get_or_default}
use Rattle.layer_tests.proofs.CellLemmas.{cell_room, cell_read}
use Rattle.layer_tests.proofs.best_fit.CellsWordMemory.load.Goals as goal

pub overflow_mul-chunk : goal.overflow_mul-chunk
overflow_mul-chunk g c = let room = cell_room _ _ _ c.requires in omega arith

pub overflow_add-chunk : goal.overflow_add-chunk
overflow_add-chunk g c = let room = cell_room _ _ _ c.requires in omega arith

pub index-requires : goal.index-requires
index-requires g c = let room = cell_room _ _ _ c.requires in omega arith

pub returns-clause-value : goal.returns-clause-value
returns-clause-value g c =
    let room = cell_room _ _ _ c.requires in
    c.index.ensures ∙ get_or_default c.args.self.now.words.items (c.args.chunk * 32768 + c.args.offset / 8) c.index.result.now 0 room.0 ∙ cell_read c.args.self.now.words.items c.args.chunk c.args.offset c.requires
