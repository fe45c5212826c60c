-- The links are in the bytes of the chunk's dataspace.
use Rattle.std.proofs.Common.{◌+◌, ◌<◌, ◌≤◌, length, sym, subst, ◌∙◌, arith}
use Rattle.std.specs.Option.{IsSome}
use Rattle.std.specs.FinMap.{get}
use Rattle.heap_core.specs.Words.{keys_of, bytes_in_store}
use Rattle.heap_core.proofs.WordsLemmas.{is_reached, length_keys, key_at}
use Rattle.heap_core.proofs.LinksLemmas.{links_at_place}
use Rattle.heap_core.proofs.words.WordsWordMemory.load_links.Goals as goal

pub offset_bounds-chunks-chunk : goal.offset_bounds-chunks-chunk
offset_bounds-chunks-chunk g c =
    let at = is_reached _ _ _ _ c.requires.node in
    let there = at.there in
    let few = at.sound.few in
    omega (arith, there, few)

pub bounds-chunks-chunk : goal.bounds-chunks-chunk
bounds-chunks-chunk g c = subst (λ n. c.args.chunk < n) (length_keys _) (is_reached _ _ _ _ c.requires.node).there

pub load_links-requires-clause-exists : goal.load_links-requires-clause-exists
load_links-requires-clause-exists g c =
    let at = is_reached _ _ _ _ c.requires.node in
    subst (λ ds. IsSome (get c.args.self.now.memory.now.spaces ds)) (key_at _ _ _ at.there) at.exists

pub load_links-requires-clause-range : goal.load_links-requires-clause-range
load_links-requires-clause-range g c =
    let at = is_reached _ _ _ _ c.requires.node in
    subst (λ ds. c.args.offset + 40 ≤ length (bytes_in_store c.args.self.now.memory.now ds)) (key_at _ _ _ at.there) (omega (arith, at.long))

pub load_links-requires-clause-short : goal.load_links-requires-clause-short
load_links-requires-clause-short g c = let short = c.requires.node.short in omega (arith, short)

pub returns-clause-links : goal.returns-clause-links
returns-clause-links g c =
    let at = is_reached _ _ _ _ c.requires.node in
    c.load_links.ensures.links
    ∙ sym (links_at_place (keys_of c.args.self.now.chunks.now) (bytes_in_store c.args.self.now.memory.now) c.args.chunk c.args.offset _ at.there at.short (key_at _ _ _ at.there))
