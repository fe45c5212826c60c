-- Best fit takes the best hole, and changes nothing but words of holes.
use Rattle.std.proofs.Common.{◌≡◌, ℕ, List, Some, refl, sym, ap, subst, ◌∙◌}
use Rattle.std.specs.Prelude.{Option, None, IfNone}
use Rattle.std.specs.Option.{option_map}
use Rattle.own_model.specs.BestFit.{best_hole, block_size, holes_of}
use Rattle.avl_alloc.specs.Found.{block_addr}
use Rattle.avl_alloc.specs.Layout.{heap_of}
use Rattle.heap_core.specs.declared.words.Chunk.{Chunk}
use Rattle.heap_core.specs.Blocks.{StandIn, Takes}
use Rattle.heap_core.specs.Heap.{keys_in}
use Rattle.heap_core.specs.Words.{around, bytes_around, keys_of, words_of}
use Rattle.heap_core.proofs.ChangeLemmas.{keeps_shares, still_sound}
use Rattle.heap_core.proofs.ChunkLemmas.{stand_in, words_are}
use Rattle.heap_core.proofs.TakeLemmas.{takes_hole}
use Rattle.heap_core.proofs.MemoryLemmas.{memory_same}
use Rattle.heap_core.proofs.heap.Heap.take_hole.Goals as goal

pub take-requires-clause-stand : goal.take-requires-clause-stand
take-requires-clause-stand c =
    subst (λ (xs : List Chunk). StandIn c.args.self.now.fit (words_of (keys_of xs) c.args.memory.now) (bytes_around (around (keys_of xs) c.args.memory.now))) (sym c.deref.ensures.0) (stand_in c.args.self.now c.args.memory.now c.args.map.now c.requires.sound)

-- what best fit did, in the words of the heap's chunks
took : (c : goal.After-take) → Takes c.args.bytes c.take.result c.args.self.now.fit c.take.new.fit (words_of (keys_in c.args.self.now) c.args.memory.now) (words_of (keys_in c.args.self.now) c.take.new.memory)
took c = subst (λ (xs : List Chunk). Takes c.args.bytes c.take.result c.args.self.now.fit c.take.new.fit (words_of (keys_of xs) c.args.memory.now) (words_of (keys_of xs) c.take.new.memory)) c.deref.ensures.0 c.take.ensures.takes

kept : (c : goal.After-take) → around (keys_in c.args.self.now) c.take.new.memory ≡ around (keys_in c.args.self.now) c.args.memory.now
kept c = subst (λ (xs : List Chunk). around (keys_of xs) c.take.new.memory ≡ around (keys_of xs) c.args.memory.now) c.deref.ensures.0 c.take.ensures.around

pub returns-clause-found : goal.returns-clause-found
returns-clause-found c =
    (took c).best
    ∙ ap (λ (w : ℕ → ℕ). option_map block_addr (best_hole (block_size c.args.bytes) (holes_of (heap_of c.args.self.now.fit w)))) (sym (words_are c.args.self.now c.args.memory.now c.args.map.now c.requires.sound))

pub returns-clause-taken : goal.returns-clause-taken
returns-clause-taken c hole best =
    let was = ap (λ (w : ℕ → ℕ). best_hole (block_size c.args.bytes) (holes_of (heap_of c.args.self.now.fit w))) (sym (words_are c.args.self.now c.args.memory.now c.args.map.now c.requires.sound)) ∙ best in
    takes_hole c.args.self.now c.take.new.fit c.args.bytes hole c.args.memory.now c.take.new.memory c.args.map.now c.requires.sound (kept c) was (took c).others (took c).heap

pub returns-clause-keeps : goal.returns-clause-keeps
returns-clause-keeps c = record {
  sound = still_sound c.args.self.now c.take.new.fit c.args.memory.now c.take.new.memory c.args.map.now c.requires.sound (kept c) (took c).sound (took c).sizes;
  others = keeps_shares c.args.self.now c.take.new.fit c.args.memory.now c.take.new.memory c.args.map.now c.requires.sound (kept c);
  payer = refl;
}

-- where there is none, what follows from one thing follows
where_none : {X A B : Type 0} (o : Option X) → (A → B) → IfNone o A → IfNone o B
where_none None then is = then is
where_none (Some x) then is = tt

-- where no hole is large enough no word has changed, so nothing has
pub returns-clause-none : goal.returns-clause-none
returns-clause-none c = record {
  same_memory = where_none c.take.result (memory_same c.args.self.now c.args.memory.now c.take.new.memory c.args.map.now c.requires.sound (kept c)) (took c).refused;
  same_map = where_none c.take.result (λ _. refl) (took c).refused;
  same_heap = where_none c.take.result (ap (λ f. record c.args.self.now { fit = f })) (took c).unchanged;
}
