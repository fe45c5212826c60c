-- The word is that of the chunk's dataspace.
use Rattle.std.proofs.Common.{◌+◌, ◌<◌, ◌≤◌, length, sym, ap, subst, ◌∙◌, arith}
use Rattle.std.specs.Option.{IsSome}
use Rattle.std.specs.FinMap.{get}
use Rattle.std.specs.Prelude.{slice_range}
use Rattle.trade_base.specs.Word.{word_of}
use Rattle.heap_core.specs.Words.{keys_of, bytes_in_store}
use Rattle.heap_core.proofs.WordsLemmas.{is_reached, length_keys, key_at, word_at_place, word_there}
use Rattle.heap_core.proofs.words.WordsWordMemory.load.Goals as goal

pub offset_bounds-chunks-chunk : goal.offset_bounds-chunks-chunk
offset_bounds-chunks-chunk g c =
    let at = is_reached _ _ _ _ c.requires in
    let there = at.there in
    let few = at.sound.few in
    omega (arith, there, few)

pub bounds-chunks-chunk : goal.bounds-chunks-chunk
bounds-chunks-chunk g c = subst (λ n. c.args.chunk < n) (length_keys _) (is_reached _ _ _ _ c.requires).there

pub load_word-word-requires-clause-exists : goal.load_word-word-requires-clause-exists
load_word-word-requires-clause-exists g c =
    let at = is_reached _ _ _ _ c.requires in
    subst (λ ds. IsSome (get c.args.self.now.memory.now.spaces ds)) (key_at _ _ _ at.there) at.exists

pub load_word-word-requires-clause-range : goal.load_word-word-requires-clause-range
load_word-word-requires-clause-range g c =
    let at = is_reached _ _ _ _ c.requires in
    subst (λ ds. c.args.offset + 8 ≤ length (bytes_in_store c.args.self.now.memory.now ds)) (key_at _ _ _ at.there) at.long

pub returns-clause-value : goal.returns-clause-value
returns-clause-value g c =
    let at = is_reached _ _ _ _ c.requires in
    let bytes = bytes_in_store c.args.self.now.memory.now in
    c.load_word-word.ensures
    ∙ ap (λ ds. word_of (slice_range (bytes ds) c.args.offset (c.args.offset + 8))) (sym (key_at _ _ _ at.there))
    ∙ sym (word_there _ c.args.offset at.aligned at.long)
    ∙ sym (word_at_place (keys_of c.args.self.now.chunks.now) bytes c.args.chunk c.args.offset at.there at.short)
