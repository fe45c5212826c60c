-- The block's header tells its size, and its payload lies in its chunk.
use Rattle.std.proofs.Common.{◌≡◌, ℕ, ◌+◌, ◌-◌, ◌≤◌, List, length, get_or, sym, ap, subst, arith}
use Rattle.std.specs.Option.{IsSome}
use Rattle.std.specs.FinMap.{get}
use Rattle.dataspace_core.specs.Store.{space_at}
use Rattle.heap_core.specs.declared.words.Chunk.{Chunk}
use Rattle.heap_core.specs.Taken.{Clears}
use Rattle.heap_core.proofs.ClearedLemmas.{facts, clears, cleared_sound, cleared_around, put_is, size_read}
use Rattle.heap_core.proofs.PayloadLemmas.{no_chunk}
use Rattle.heap_core.proofs.heap.Heap.clear_payload.Goals as goal

chunk_is : (xs ys : List Chunk) (k : ℕ) → xs ≡ ys → get_or xs k no_chunk ≡ get_or ys k no_chunk
chunk_is xs ys k same = ap (λ cs. get_or cs k no_chunk) same

pub load_word-size-requires-clause-exists : goal.load_word-size-requires-clause-exists
load_word-size-requires-clause-exists c = subst (λ (x : Chunk). IsSome (get c.args.memory.now.spaces x.ds.0)) (sym (chunk_is _ _ c.args.block.chunk c.deref.ensures.0)) (facts c.args.self.now c.args.memory.now c.args.map.now c.requires.sound c.args.block c.requires.used.0 c.requires.used.1).exists

pub load_word-size-requires-clause-aligned : goal.load_word-size-requires-clause-aligned
load_word-size-requires-clause-aligned c = (facts c.args.self.now c.args.memory.now c.args.map.now c.requires.sound c.args.block c.requires.used.0 c.requires.used.1).even

pub load_word-size-requires-clause-range : goal.load_word-size-requires-clause-range
load_word-size-requires-clause-range c =
    let f = facts c.args.self.now c.args.memory.now c.args.map.now c.requires.sound c.args.block c.requires.used.0 c.requires.used.1 in
    let least = f.least in
    let within = f.within in
    subst (λ (x : Chunk). c.args.block.offset + 8 ≤ length (space_at c.args.memory.now x.ds.0).bytes) (sym (chunk_is _ _ c.args.block.chunk c.deref.ensures.0)) (omega (arith, least, within))

pub overflow_add-block : goal.overflow_add-block
overflow_add-block c = let low = (facts c.args.self.now c.args.memory.now c.args.map.now c.requires.sound c.args.block c.requires.used.0 c.requires.used.1).low in omega (arith, low)

pub overflow_sub-size : goal.overflow_sub-size
overflow_sub-size c = let least = (facts c.args.self.now c.args.memory.now c.args.map.now c.requires.sound c.args.block c.requires.used.0 c.requires.used.1).least in let read = size_read c.args.self.now c.args.memory.now c.args.map.now c.requires.sound c.args.block c.requires.used.0 c.requires.used.1 c.deref.result.now c.load_word-size.result c.deref.ensures.0 c.load_word-size.ensures in omega (arith, least, read)

pub clear-requires-clause-exists : goal.clear-requires-clause-exists
clear-requires-clause-exists c = subst (λ (x : Chunk). IsSome (get c.args.memory.now.spaces x.ds.0)) (sym (chunk_is _ _ c.args.block.chunk c.deref.ensures.0)) (facts c.args.self.now c.args.memory.now c.args.map.now c.requires.sound c.args.block c.requires.used.0 c.requires.used.1).exists

pub clear-requires-clause-range : goal.clear-requires-clause-range
clear-requires-clause-range c =
    let f = facts c.args.self.now c.args.memory.now c.args.map.now c.requires.sound c.args.block c.requires.used.0 c.requires.used.1 in
    let least = f.least in
    let within = f.within in
    let read = size_read c.args.self.now c.args.memory.now c.args.map.now c.requires.sound c.args.block c.requires.used.0 c.requires.used.1 c.deref.result.now c.load_word-size.result c.deref.ensures.0 c.load_word-size.ensures in
    subst (λ (x : Chunk). c.args.block.offset + 16 + (c.load_word-size.result - 16) ≤ length (space_at c.args.memory.now x.ds.0).bytes) (sym (chunk_is _ _ c.args.block.chunk c.deref.ensures.0)) (omega (arith, least, within, read))

pub clear-requires-clause-short : goal.clear-requires-clause-short
clear-requires-clause-short c =
    let f = facts c.args.self.now c.args.memory.now c.args.map.now c.requires.sound c.args.block c.requires.used.0 c.requires.used.1 in
    let least = f.least in
    let short = f.short in
    let read = size_read c.args.self.now c.args.memory.now c.args.map.now c.requires.sound c.args.block c.requires.used.0 c.requires.used.1 c.deref.result.now c.load_word-size.result c.deref.ensures.0 c.load_word-size.ensures in omega (arith, least, short, read)

pub overflow_add-result : goal.overflow_add-result
overflow_add-result c =
    let low = (facts c.args.self.now c.args.memory.now c.args.map.now c.requires.sound c.args.block c.requires.used.0 c.requires.used.1).low in
    let start = ap (λ (x : Chunk). x.start) (chunk_is _ _ c.args.block.chunk c.deref.ensures.0) in omega (arith, low, start)

pub overflow_add-result-2 : goal.overflow_add-result-2
overflow_add-result-2 c =
    let low = (facts c.args.self.now c.args.memory.now c.args.map.now c.requires.sound c.args.block c.requires.used.0 c.requires.used.1).low in
    let start = ap (λ (x : Chunk). x.start) (chunk_is _ _ c.args.block.chunk c.deref.ensures.0) in omega (arith, low, start)

pub returns-clause-start : goal.returns-clause-start
returns-clause-start c = ap (λ (x : Chunk). x.start + c.args.block.offset + 16) (chunk_is _ _ c.args.block.chunk c.deref.ensures.0)

pub returns-clause-cleared : goal.returns-clause-cleared
returns-clause-cleared c n used =
    subst (λ (x : Chunk). Clears c.args.self.now (x.start + c.args.block.offset + 16) (n - 16) c.args.memory.now c.clear.new.memory c.args.map.now) (sym (chunk_is _ _ c.args.block.chunk c.deref.ensures.0))
    (clears c.args.self.now c.args.memory.now c.args.map.now c.requires.sound c.args.block n used c.clear.new.memory (put_is c.args.self.now c.args.memory.now c.args.map.now c.requires.sound c.args.block n used c.deref.result.now c.load_word-size.result c.clear.new.memory c.deref.ensures.0 c.load_word-size.ensures c.clear.ensures))

pub returns-clause-sound : goal.returns-clause-sound
returns-clause-sound c = cleared_sound c.args.self.now c.args.memory.now c.args.map.now c.requires.sound c.args.block c.requires.used.0 c.requires.used.1 c.clear.new.memory (put_is c.args.self.now c.args.memory.now c.args.map.now c.requires.sound c.args.block c.requires.used.0 c.requires.used.1 c.deref.result.now c.load_word-size.result c.clear.new.memory c.deref.ensures.0 c.load_word-size.ensures c.clear.ensures)

pub returns-clause-around : goal.returns-clause-around
returns-clause-around c = cleared_around c.args.self.now c.args.memory.now c.args.map.now c.requires.sound c.args.block c.requires.used.0 c.requires.used.1 c.clear.new.memory (put_is c.args.self.now c.args.memory.now c.args.map.now c.requires.sound c.args.block c.requires.used.0 c.requires.used.1 c.deref.result.now c.load_word-size.result c.clear.new.memory c.deref.ensures.0 c.load_word-size.ensures c.clear.ensures)
