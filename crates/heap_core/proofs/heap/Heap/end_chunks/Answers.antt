-- Each round detaches the last chunk that is left, and gives its dataspace back.
use Rattle.std.proofs.Common.{◌-◌, List, ap, get_or}
use Rattle.heap_core.specs.declared.words.Chunk.{Chunk}
use Rattle.heap_core.proofs.EndChunkLemmas.{ends_none, round, round_exists, round_region}
use Rattle.heap_core.proofs.PayloadLemmas.{no_chunk}
use Rattle.heap_core.proofs.heap.Heap.end_chunks.Goals as goal

pub loop-left-init : goal.loop-left-init
loop-left-init c = rw c.len-left.ensures.value (ends_none _ _ _ c.requires.sound c.requires.none)

pub detach_heap-requires : goal.detach_heap-requires
detach_heap-requires c =
    round_region c.args.self.now c.loop-left.left _ c.loop-left.memory c.loop-left.memory _ _ c.requires.sound c.loop-left-test.true c.loop-left.invariant _ (ap (λ (xs : List Chunk). get_or xs (c.loop-left.left - 1) no_chunk) c.deref.ensures.0)

pub free-requires : goal.free-requires
free-requires c =
    round_exists c.args.self.now c.loop-left.left _ c.loop-left.memory c.loop-left.memory _ _ c.requires.sound c.loop-left-test.true c.loop-left.invariant _ (ap (λ (xs : List Chunk). get_or xs (c.loop-left.left - 1) no_chunk) c.deref.ensures.0)

pub loop-left-preserved : goal.loop-left-preserved
loop-left-preserved c =
    round c.args.self.now c.loop-left.left _ c.loop-left.memory c.free.new.self _ _ c.requires.sound c.loop-left-test.true c.loop-left.invariant _ (ap (λ (xs : List Chunk). get_or xs (c.loop-left.left - 1) no_chunk) c.deref.ensures.0) _ c.detach_heap.ensures c.free.ensures.part
