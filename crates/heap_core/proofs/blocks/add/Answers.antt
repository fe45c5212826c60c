-- There are as many chunks of blocks as the allocator has sizes.
use Rattle.std.proofs.Common.{arith}
use Rattle.heap_core.proofs.BlockLemmas.{length-heap_of}
use Rattle.heap_core.specs.Words.{words_of, keys_of}
use Rattle.heap_core.proofs.blocks.add.Goals as goal

pub add_chunk-requires-clause-next : goal.add_chunk-requires-clause-next
add_chunk-requires-clause-next g c =
    let all = length-heap_of c.args.fit.now (words_of (keys_of c.over-words.result.chunks.now) c.over-words.result.memory.now) in
    let last = c.requires.last in
    omega (arith, all, last)
