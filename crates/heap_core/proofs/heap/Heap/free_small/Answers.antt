-- Best fit gives the block back where one starts there, and changes nothing but words of holes.
use Rattle.std.proofs.Common.{List, refl, sym, subst, arith}
use Rattle.heap_core.specs.declared.words.Chunk.{Chunk}
use Rattle.heap_core.specs.Blocks.{StandIn}
use Rattle.heap_core.specs.Words.{around, bytes_around, keys_of, words_of}
use Rattle.heap_core.proofs.ChunkLemmas.{stand_in}
use Rattle.heap_core.proofs.GiveLemmas.{give_keeps, gave_none, gave_unchanged, gave_free, gave_small}
use Rattle.heap_core.proofs.LookupLemmas.{no_free, not_large}
use Rattle.heap_core.proofs.heap.Heap.free_small.Goals as goal

pub returns-then-at-lt-BLOCK_HEADER-clause-refusal : goal.returns-then-at-lt-BLOCK_HEADER-clause-refusal
returns-then-at-lt-BLOCK_HEADER-clause-refusal c =
    let low = c.if-at-lt-BLOCK_HEADER.true in
    sym (no_free _ _ _ c.requires.sound _ _ _ c.requires.lies (λ y n used is. absurd (omega (arith, is, low))))

pub returns-then-at-lt-BLOCK_HEADER-clause-is_small : goal.returns-then-at-lt-BLOCK_HEADER-clause-is_small
returns-then-at-lt-BLOCK_HEADER-clause-is_small c = not_large _ _ _ c.requires.sound _ _ _ c.requires.lies

pub give-given-requires-clause-stand : goal.give-given-requires-clause-stand
give-given-requires-clause-stand c =
    subst (λ (xs : List Chunk). StandIn c.args.self.now.fit (words_of (keys_of xs) c.args.memory.now) (bytes_around (around (keys_of xs) c.args.memory.now))) (sym c.deref.ensures.0) (stand_in c.args.self.now c.args.memory.now c.args.map.now c.requires.sound)

pub returns-then-is_none-clause-refusal : goal.returns-then-is_none-clause-refusal
returns-then-is_none-clause-refusal c =
    sym (gave_none _ _ _ _ _ _ _ c.requires.sound _ c.deref.ensures.0 c.give-given.ensures.around c.give-given.ensures.gives _ _ c.requires.lies c.if-at-lt-BLOCK_HEADER.false refl (let x = c.is_none.ensures in let y = c.if-is_none.true in grind arith))

pub returns-then-is_none-clause-is_small : goal.returns-then-is_none-clause-is_small
returns-then-is_none-clause-is_small c = not_large _ _ _ c.requires.sound _ _ _ c.requires.lies

pub returns-then-is_none-clause-keeps : goal.returns-then-is_none-clause-keeps
returns-then-is_none-clause-keeps c =
    give_keeps _ _ _ _ _ _ _ c.requires.sound _ c.deref.ensures.0 c.give-given.ensures.around c.give-given.ensures.gives

pub returns-then-is_none-clause-err : goal.returns-then-is_none-clause-err
returns-then-is_none-clause-err c =
    gave_unchanged _ _ _ _ _ _ _ c.requires.sound _ c.deref.ensures.0 c.give-given.ensures.around c.give-given.ensures.gives _ _ c.requires.lies c.if-at-lt-BLOCK_HEADER.false refl (let x = c.is_none.ensures in let y = c.if-is_none.true in grind arith)

pub returns-clause-refusal : goal.returns-clause-refusal
returns-clause-refusal c =
    sym (gave_free _ _ _ _ _ _ _ c.requires.sound _ c.deref.ensures.0 c.give-given.ensures.around c.give-given.ensures.gives _ _ c.requires.lies c.if-at-lt-BLOCK_HEADER.false refl (let x = c.is_none.ensures in let y = c.if-is_none.false in grind arith))

pub returns-clause-small : goal.returns-clause-small
returns-clause-small c =
    gave_small _ _ _ _ _ _ _ c.requires.sound _ c.deref.ensures.0 c.give-given.ensures.around c.give-given.ensures.gives _ _ c.requires.lies c.if-at-lt-BLOCK_HEADER.false refl (let x = c.is_none.ensures in let y = c.if-is_none.false in grind arith)

pub returns-clause-is_small : goal.returns-clause-is_small
returns-clause-is_small c = not_large _ _ _ c.requires.sound _ _ _ c.requires.lies

pub returns-clause-keeps : goal.returns-clause-keeps
returns-clause-keeps c =
    give_keeps _ _ _ _ _ _ _ c.requires.sound _ c.deref.ensures.0 c.give-given.ensures.around c.give-given.ensures.gives
