-- The chunk's dataspace has the links, and nothing else changes.
use Rattle.std.proofs.Common.{ℕ, ◌+◌, ◌<◌, ◌≤◌, length, sym, ap, subst, ◌∙◌, arith}
use Rattle.std.specs.Option.{IsSome}
use Rattle.std.specs.FinMap.{get}
use Rattle.dataspace_core.specs.Store.{Store, with_bytes_at}
use Rattle.heap_core.specs.Words.{Around, keys_of, bytes_in_store, word_in, around}
use Rattle.heap_core.specs.Links.{links_bytes}
use Rattle.heap_core.proofs.WordsLemmas.{is_reached, length_keys, key_at}
use Rattle.heap_core.proofs.LinksLemmas.{links_words, links_around}
use Rattle.heap_core.proofs.words.WordsWordMemory.store_links.Goals as goal

pub offset_bounds-chunks-chunk : goal.offset_bounds-chunks-chunk
offset_bounds-chunks-chunk g c =
    let at = is_reached _ _ _ _ c.requires.node in
    let there = at.there in
    let few = at.sound.few in
    omega (arith, there, few)

pub bounds-chunks-chunk : goal.bounds-chunks-chunk
bounds-chunks-chunk g c = subst (λ n. c.args.chunk < n) (length_keys _) (is_reached _ _ _ _ c.requires.node).there

pub store_links-requires-clause-exists : goal.store_links-requires-clause-exists
store_links-requires-clause-exists g c =
    let at = is_reached _ _ _ _ c.requires.node in
    subst (λ ds. IsSome (get c.args.self.now.memory.now.spaces ds)) (key_at _ _ _ at.there) at.exists

pub store_links-requires-clause-range : goal.store_links-requires-clause-range
store_links-requires-clause-range g c =
    let at = is_reached _ _ _ _ c.requires.node in
    subst (λ ds. c.args.offset + 40 ≤ length (bytes_in_store c.args.self.now.memory.now ds)) (key_at _ _ _ at.there) (omega (arith, at.long))

pub store_links-requires-clause-short : goal.store_links-requires-clause-short
store_links-requires-clause-short g c = let short = c.requires.node.short in omega (arith, short)

pub returns-clause-words : goal.returns-clause-words
returns-clause-words g c =
    let at = is_reached _ _ _ _ c.requires.node in
    let now = c.args.self.now.memory.now in
    let put : ℕ → Store = λ ds. with_bytes_at now ds (c.args.offset + 16) (links_bytes c.args.links) in
    let after = c.store_links.ensures.stored ∙ ap put (sym (key_at _ _ _ at.there)) in
    ap (λ store. word_in (keys_of c.args.self.now.chunks.now) (bytes_in_store store)) after
    ∙ links_words _ now c.args.chunk c.args.offset c.args.links c.requires.even c.requires.node c.store_links.ensures.left c.store_links.ensures.right c.store_links.ensures.high

pub returns-clause-rest : goal.returns-clause-rest
returns-clause-rest g c =
    let at = is_reached _ _ _ _ c.requires.node in
    let now = c.args.self.now.memory.now in
    let put : ℕ → Store = λ ds. with_bytes_at now ds (c.args.offset + 16) (links_bytes c.args.links) in
    let after = c.store_links.ensures.stored ∙ ap put (sym (key_at _ _ _ at.there)) in
    ap (λ (store : Store). (around (keys_of c.args.self.now.chunks.now) store, c.args.self.now.memory.ghost_name)) after
    ∙ ap (λ (a : Around). (a, c.args.self.now.memory.ghost_name)) (links_around _ now c.args.chunk c.args.offset c.args.links c.requires.even c.requires.node c.store_links.ensures.left c.store_links.ensures.right c.store_links.ensures.high)
