-- The chunk's dataspace has the word, and nothing else changes.
use Rattle.std.proofs.Common.{ℕ, ◌+◌, ◌<◌, ◌≤◌, length, sym, ap, subst, ◌∙◌, arith}
use Rattle.std.specs.Option.{IsSome}
use Rattle.std.specs.FinMap.{get}
use Rattle.trade_base.specs.Word.{word_bytes}
use Rattle.dataspace_core.specs.Store.{Store, with_bytes_at}
use Rattle.heap_core.specs.Words.{Around, keys_of, bytes_in_store, word_in, around}
use Rattle.heap_core.proofs.WordsLemmas.{is_reached, length_keys, key_at, words_stored, around_kept}
use Rattle.heap_core.proofs.words.WordsWordMemory.store.Goals as goal

pub offset_bounds-chunks-chunk : goal.offset_bounds-chunks-chunk
offset_bounds-chunks-chunk g c =
    let at = is_reached _ _ _ _ c.requires in
    let there = at.there in
    let few = at.sound.few in
    omega (arith, there, few)

pub bounds-chunks-chunk : goal.bounds-chunks-chunk
bounds-chunks-chunk g c = subst (λ n. c.args.chunk < n) (length_keys _) (is_reached _ _ _ _ c.requires).there

pub store_word-requires-clause-exists : goal.store_word-requires-clause-exists
store_word-requires-clause-exists g c =
    let at = is_reached _ _ _ _ c.requires in
    subst (λ ds. IsSome (get c.args.self.now.memory.now.spaces ds)) (key_at _ _ _ at.there) at.exists

pub store_word-requires-clause-range : goal.store_word-requires-clause-range
store_word-requires-clause-range g c =
    let at = is_reached _ _ _ _ c.requires in
    subst (λ ds. c.args.offset + 8 ≤ length (bytes_in_store c.args.self.now.memory.now ds)) (key_at _ _ _ at.there) at.long

pub returns-clause-words : goal.returns-clause-words
returns-clause-words g c =
    let at = is_reached _ _ _ _ c.requires in
    let now = c.args.self.now.memory.now in
    let put : ℕ → Store = λ ds. with_bytes_at now ds c.args.offset (word_bytes c.args.value) in
    let after = c.store_word.ensures.written ∙ ap put (sym (key_at _ _ _ at.there)) in
    ap (λ store. word_in (keys_of c.args.self.now.chunks.now) (bytes_in_store store)) after
    ∙ words_stored _ _ c.args.chunk c.args.offset c.args.value at c.ranges.value.fits

pub returns-clause-rest : goal.returns-clause-rest
returns-clause-rest g c =
    let at = is_reached _ _ _ _ c.requires in
    let now = c.args.self.now.memory.now in
    let put : ℕ → Store = λ ds. with_bytes_at now ds c.args.offset (word_bytes c.args.value) in
    let after = c.store_word.ensures.written ∙ ap put (sym (key_at _ _ _ at.there)) in
    ap (λ (store : Store). (around (keys_of c.args.self.now.chunks.now) store, c.args.self.now.memory.ghost_name)) after
    ∙ ap (λ (a : Around). (a, c.args.self.now.memory.ghost_name)) (around_kept _ _ c.args.chunk c.args.offset c.args.value at c.ranges.value.fits)
