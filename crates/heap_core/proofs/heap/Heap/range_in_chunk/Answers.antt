-- Best fit tells the used block whose payload holds the address.
use Rattle.std.proofs.Common.{List, sym, subst, arith}
use Rattle.heap_core.specs.declared.words.Chunk.{Chunk}
use Rattle.heap_core.specs.Blocks.{StandIn}
use Rattle.heap_core.specs.Words.{around, bytes_around, keys_of, words_of}
use Rattle.heap_core.proofs.ChunkLemmas.{stand_in}
use Rattle.heap_core.proofs.GiveLemmas.{blocks_there, kept_there, words_there}
use Rattle.heap_core.proofs.LookupLemmas.{none_there, told_has, none_past, range_held, told_none, told_some}
use Rattle.heap_core.proofs.MemoryLemmas.{memory_same}
use Rattle.heap_core.proofs.heap.Heap.range_in_chunk.Goals as goal

pub look-requires-clause-stand : goal.look-requires-clause-stand
look-requires-clause-stand c =
    subst (λ (xs : List Chunk). StandIn c.args.self.now.fit (words_of (keys_of xs) c.args.memory.now) (bytes_around (around (keys_of xs) c.args.memory.now))) (sym c.deref.ensures.0) (stand_in c.args.self.now c.args.memory.now c.args.map.now c.requires.sound)

pub returns-in_err-block-clause-finds : goal.returns-in_err-block-clause-finds
returns-in_err-block-clause-finds c =
    let none = none_there _ _ _ c.requires.sound _ _ _ c.requires.lies _ c.requires.some (told_none _ _ _ _ c.in_err-block.ensures.block (blocks_there c.args.self.now _ _ c.requires.sound _ _ c.deref.ensures.0)) in
    rw c.from_residual.ensures (record { some = tt; none = none })

pub returns-in_err-block-clause-memory : goal.returns-in_err-block-clause-memory
returns-in_err-block-clause-memory c =
    memory_same c.args.self.now c.args.memory.now c.look.new.memory c.args.map.now c.requires.sound (kept_there c.args.self.now c.args.memory.now c.look.new.memory _ c.deref.ensures.0 c.look.ensures.around) (words_there c.args.self.now c.args.memory.now c.look.new.memory _ c.deref.ensures.0 c.look.ensures.words)

pub overflow_sub-at : goal.overflow_sub-at
overflow_sub-at c =
    let low = (told_has _ _ _ c.requires.sound _ _ _ c.requires.lies _ _ (told_some _ _ _ _ _ c.in_ok-block.ensures.block (blocks_there c.args.self.now _ _ c.requires.sound _ _ c.deref.ensures.0))).low in omega (arith, low)

pub overflow_sub-block : goal.overflow_sub-block
overflow_sub-block c =
    let high = (told_has _ _ _ c.requires.sound _ _ _ c.requires.lies _ _ (told_some _ _ _ _ _ c.in_ok-block.ensures.block (blocks_there c.args.self.now _ _ c.requires.sound _ _ c.deref.ensures.0))).high in omega (arith, high)

pub returns-then-count-block-clause-finds : goal.returns-then-count-block-clause-finds
returns-then-count-block-clause-finds c =
    let is = told_some _ _ _ _ _ c.in_ok-block.ensures.block (blocks_there c.args.self.now _ _ c.requires.sound _ _ c.deref.ensures.0) in
    let has = told_has _ _ _ c.requires.sound _ _ _ c.requires.lies _ _ is in
    let low = has.low in
    let high = has.high in
    let past = c.if-count-block.true in
    record { some = tt; none = none_past _ _ _ c.requires.sound _ _ _ c.requires.lies _ _ is _ c.requires.some (omega (arith, low, high, past)) }

pub returns-then-count-block-clause-memory : goal.returns-then-count-block-clause-memory
returns-then-count-block-clause-memory c =
    memory_same c.args.self.now c.args.memory.now c.look.new.memory c.args.map.now c.requires.sound (kept_there c.args.self.now c.args.memory.now c.look.new.memory _ c.deref.ensures.0 c.look.ensures.around) (words_there c.args.self.now c.args.memory.now c.look.new.memory _ c.deref.ensures.0 c.look.ensures.words)

pub returns-clause-memory : goal.returns-clause-memory
returns-clause-memory c =
    memory_same c.args.self.now c.args.memory.now c.look.new.memory c.args.map.now c.requires.sound (kept_there c.args.self.now c.args.memory.now c.look.new.memory _ c.deref.ensures.0 c.look.ensures.around) (words_there c.args.self.now c.args.memory.now c.look.new.memory _ c.deref.ensures.0 c.look.ensures.words)

pub returns-clause-finds : goal.returns-clause-finds
returns-clause-finds c =
    let is = told_some _ _ _ _ _ c.in_ok-block.ensures.block (blocks_there c.args.self.now _ _ c.requires.sound _ _ c.deref.ensures.0) in
    let has = told_has _ _ _ c.requires.sound _ _ _ c.requires.lies _ _ is in
    let low = has.low in
    let high = has.high in
    let within = c.if-count-block.false in
    let held = range_held _ _ _ c.requires.sound _ _ _ c.requires.lies _ _ is _ c.requires.some (omega (arith, low, high, within)) in
    record { some = rw c.deref-2.ensures.0 held; none = tt }
