-- The walk is over the bytes of the chunk's dataspace.
use Rattle.std.proofs.Common.{◌<◌, length, subst, arith}
use Rattle.std.specs.Option.{IsSome}
use Rattle.std.specs.FinMap.{get}
use Rattle.avl_alloc.specs.Words.{place_at}
use Rattle.heap_core.specs.Words.{keys_of, bytes_in_store, word_in}
use Rattle.heap_core.specs.Walk.{HasWords, HasRoom}
use Rattle.heap_core.proofs.WordsLemmas.{length_keys, key_at}
use Rattle.heap_core.proofs.WalkLemmas.{chunk_words, chunk_blocks}
use Rattle.heap_core.proofs.words.WordsWordMemory.walk.Goals as goal

pub offset_bounds-chunks-chunk : goal.offset_bounds-chunks-chunk
offset_bounds-chunks-chunk g c =
    let at = (chunk_blocks _ _ c.args.chunk c.args.target c.requires.0 c.requires.1 c.requires.2 c.requires.3).at in
    let there = at.there in
    let few = at.sound.few in
    omega (arith, there, few)

pub bounds-chunks-chunk : goal.bounds-chunks-chunk
bounds-chunks-chunk g c = subst (λ n. c.args.chunk < n) (length_keys _) (chunk_blocks _ _ c.args.chunk c.args.target c.requires.0 c.requires.1 c.requires.2 c.requires.3).at.there

pub walk-requires : goal.walk-requires
walk-requires g c =
    let in_chunk = chunk_blocks _ _ c.args.chunk c.args.target c.requires.0 c.requires.1 c.requires.2 c.requires.3 in
    let there = in_chunk.at.there in
    let bytes = bytes_in_store c.args.self.now.memory.now in
    let w = word_in (keys_of c.args.self.now.chunks.now) bytes in
    record {
      exists = subst (λ ds. IsSome (get c.args.self.now.memory.now.spaces ds)) (key_at _ _ _ there) in_chunk.at.exists;
      headers = (
        w,
        place_at c.args.chunk 0,
        c.requires.0,
        subst (λ ds. HasWords (bytes ds) w (place_at c.args.chunk 0)) (key_at _ _ _ there) (chunk_words _ bytes c.args.chunk there),
        record { laid = c.requires.1; inside = c.requires.3 },
        subst (λ ds. HasRoom c.requires.0 (length (bytes ds))) (key_at _ _ _ there) in_chunk.room,
      );
    }

pub returns-clause-found : goal.returns-clause-found
returns-clause-found g c blocks laid inside =
    let there = (chunk_blocks _ _ c.args.chunk c.args.target c.requires.0 c.requires.1 c.requires.2 c.requires.3).at.there in
    let bytes = bytes_in_store c.args.self.now.memory.now in
    let w = word_in (keys_of c.args.self.now.chunks.now) bytes in
    c.walk.ensures.found w (place_at c.args.chunk 0) blocks
    (subst (λ ds. HasWords (bytes ds) w (place_at c.args.chunk 0)) (key_at _ _ _ there) (chunk_words _ bytes c.args.chunk there))
    (record { laid = laid; inside = inside })

pub returns-clause-loads : goal.returns-clause-loads
returns-clause-loads g c blocks laid inside =
    let there = (chunk_blocks _ _ c.args.chunk c.args.target c.requires.0 c.requires.1 c.requires.2 c.requires.3).at.there in
    let bytes = bytes_in_store c.args.self.now.memory.now in
    let w = word_in (keys_of c.args.self.now.chunks.now) bytes in
    c.walk.ensures.loads w (place_at c.args.chunk 0) blocks
    (subst (λ ds. HasWords (bytes ds) w (place_at c.args.chunk 0)) (key_at _ _ _ there) (chunk_words _ bytes c.args.chunk there))
    (record { laid = laid; inside = inside })
