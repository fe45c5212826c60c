use Rattle.std.proofs.lemmas.Bool.Decides.{nat_tests}
use Rattle.std.proofs.Common.{true, false, ◌≡◌, ◌+◌, ◌-◌, ◌∙◌, ap, refl, sym, subst, arith, eqb}
use Rattle.std.specs.Prelude.{if◌then◌else◌}
use Rattle.avl_alloc.specs.Words.{IsWord, place_at}
use Rattle.avl_alloc.specs.Walk.{IsWalking}
use Rattle.avl_alloc.proofs.WalkLemmas.{of_chunk, at_start, at_start_more, ahead-start, ahead-read, no_hole, walk_start, walk_on, walk_block, walk_counted, state_word, before_word, next_read}
use Rattle.avl_alloc.proofs.memory.WordMemory.walk.Goals as goal

-- the first size
pub load-requires : goal.load-requires
load-requires g c =
    let q = c.requires in
    let w = g.Self.WordMemory.word c.args.self.now in
    let bytes = g.Self.WordMemory.bytes (g.Self.WordMemory.rest c.args.self.now) in
    let read = ahead-read w (place_at c.args.chunk 0) 0 0 c.args.target q.0 0 0 q.3 bytes q.2 q.0 (ahead-start w (place_at c.args.chunk 0) c.args.target q.0 0 q.1) in
    subst (λ k. IsWord bytes k 0) (of_chunk c.args.chunk) read.size_word

pub steps-init : goal.steps-init
steps-init g c =
    let w = g.Self.WordMemory.word c.args.self.now in
    let size : c.load.result ≡ w (place_at c.args.chunk 0 + 0) = c.load.ensures.value ∙ ap w (at_start c.args.chunk 0) in
    record {
      words = c.load.ensures.words;
      rest = c.load.ensures.rest;
      walking = λ blocks laid inside.
          subst (λ n. IsWalking w (place_at c.args.chunk 0) c.args.target blocks (record { before = 0; offset = 0; next = c.load.result }) n (g.Self.WordMemory.loads c.args.self.now)) (sym c.load.ensures.loads)
          (walk_start w (place_at c.args.chunk 0) c.args.target c.load.result blocks (g.Self.WordMemory.loads c.args.self.now) laid inside size);
    }

-- the next size
pub load-requires-in-steps : goal.load-requires-in-steps
load-requires-in-steps g c =
    let inv = c.steps.invariant in
    let q = c.requires in
    let w = g.Self.WordMemory.word c.args.self.now in
    let bytes = g.Self.WordMemory.bytes (g.Self.WordMemory.rest c.args.self.now) in
    let read = next_read w (place_at c.args.chunk 0) c.args.target q.0 c.steps.step _ _ (inv.walking q.0 q.1 q.3) bytes q.2 (omega (arith, c.steps-test.true)) in
    rw inv.rest (subst (λ k. IsWord bytes k c.steps.step.next) (of_chunk c.args.chunk) read.size_word)

pub overflow_add-step : goal.overflow_add-step
overflow_add-step g c =
    let inv = c.steps.invariant in
    let q = c.requires in
    let w = g.Self.WordMemory.word c.args.self.now in
    let bytes = g.Self.WordMemory.bytes (g.Self.WordMemory.rest c.args.self.now) in
    let read = next_read w (place_at c.args.chunk 0) c.args.target q.0 c.steps.step _ _ (inv.walking q.0 q.1 q.3) bytes q.2 (omega (arith, c.steps-test.true)) in
    let size : c.load-in-steps.result ≡ w (place_at c.args.chunk 0 + c.steps.step.next) = c.load-in-steps.ensures.value ∙ ap (g.Self.WordMemory.word c.steps.self) (at_start c.args.chunk c.steps.step.next) ∙ ap (λ w. w (place_at c.args.chunk 0 + c.steps.step.next)) inv.words in
    let short = read.short in
    omega arith

pub steps-smaller : goal.steps-smaller
steps-smaller g c =
    let inv = c.steps.invariant in
    let q = c.requires in
    let w = g.Self.WordMemory.word c.args.self.now in
    let bytes = g.Self.WordMemory.bytes (g.Self.WordMemory.rest c.args.self.now) in
    let read = next_read w (place_at c.args.chunk 0) c.args.target q.0 c.steps.step _ _ (inv.walking q.0 q.1 q.3) bytes q.2 (omega (arith, c.steps-test.true)) in
    let size : c.load-in-steps.result ≡ w (place_at c.args.chunk 0 + c.steps.step.next) = c.load-in-steps.ensures.value ∙ ap (g.Self.WordMemory.word c.steps.self) (at_start c.args.chunk c.steps.step.next) ∙ ap (λ w. w (place_at c.args.chunk 0 + c.steps.step.next)) inv.words in
    let some = read.some in
    let on = c.steps-test.true in
    omega arith

pub steps-preserved : goal.steps-preserved
steps-preserved g c =
    let inv = c.steps.invariant in
    let w = g.Self.WordMemory.word c.args.self.now in
    let size : c.load-in-steps.result ≡ w (place_at c.args.chunk 0 + c.steps.step.next) = c.load-in-steps.ensures.value ∙ ap (g.Self.WordMemory.word c.steps.self) (at_start c.args.chunk c.steps.step.next) ∙ ap (λ w. w (place_at c.args.chunk 0 + c.steps.step.next)) inv.words in
    record {
      words = c.load-in-steps.ensures.words ∙ inv.words;
      rest = c.load-in-steps.ensures.rest ∙ inv.rest;
      walking = λ blocks laid inside.
          subst (λ n. IsWalking w (place_at c.args.chunk 0) c.args.target blocks (record { before = c.steps.step.offset; offset = c.steps.step.next; next = c.steps.step.next + c.load-in-steps.result }) n (g.Self.WordMemory.loads c.args.self.now)) (sym c.load-in-steps.ensures.loads)
          (walk_on w (place_at c.args.chunk 0) c.args.target blocks c.steps.step _ _ (inv.walking blocks laid inside) c.load-in-steps.result (omega (arith, c.steps-test.true)) size);
    }

-- the states of the last two blocks
pub load-used-requires : goal.load-used-requires
load-used-requires g c =
    let inv = c.steps.invariant in
    let q = c.requires in
    let w = g.Self.WordMemory.word c.args.self.now in
    let bytes = g.Self.WordMemory.bytes (g.Self.WordMemory.rest c.args.self.now) in
    rw inv.rest (subst (λ k. IsWord bytes k (c.steps.step.offset + 8)) (of_chunk c.args.chunk) (state_word w (place_at c.args.chunk 0) c.args.target q.0 c.steps.step _ _ (inv.walking q.0 q.1 q.3) bytes q.2))

pub load-behind-requires : goal.load-behind-requires
load-behind-requires g c =
    let inv = c.steps.invariant in
    let q = c.requires in
    let w = g.Self.WordMemory.word c.args.self.now in
    let bytes = g.Self.WordMemory.bytes (g.Self.WordMemory.rest c.args.self.now) in
    rw (c.load-used.ensures.rest, inv.rest) (subst (λ k. IsWord bytes k (c.steps.step.before + 8)) (of_chunk c.args.chunk) (before_word w (place_at c.args.chunk 0) c.args.target q.0 c.steps.step _ _ (inv.walking q.0 q.1 q.3) bytes q.2))

-- the first block
pub returns-then-step-clause-found : goal.returns-then-step-clause-found
returns-then-step-clause-found g c blocks laid inside =
    let inv = c.steps.invariant in
    let w = g.Self.WordMemory.word c.args.self.now in
    let state : c.load-used.result ≡ w (place_at c.args.chunk 0 + c.steps.step.offset + 8) = c.load-used.ensures.value ∙ ap (g.Self.WordMemory.word c.steps.self) (at_start_more c.args.chunk c.steps.step.offset 8) ∙ ap (λ w. w (place_at c.args.chunk 0 + c.steps.step.offset + 8)) inv.words in
    walk_block w (place_at c.args.chunk 0) c.args.target blocks c.steps.step _ _ (inv.walking blocks laid inside) (omega (arith, c.steps-test.false)) c.load-used.result 0 state
    (sym (no_hole (eqb (w (place_at c.args.chunk 0 + c.steps.step.before + 8)) 1) c.steps.step.before c.steps.step.offset (omega (arith, c.if-step.true))))

pub returns-then-step-clause-loads : goal.returns-then-step-clause-loads
returns-then-step-clause-loads g c blocks laid inside =
    let counted = walk_counted (g.Self.WordMemory.word c.args.self.now) (place_at c.args.chunk 0) c.args.target blocks c.steps.step _ _ (c.steps.invariant.walking blocks laid inside) (omega (arith, c.steps-test.false)) in
    let first = c.if-step.true in
    let loads = c.load-used.ensures.loads in
    grind (arith, nat_tests)

-- a later one, after a used block
pub returns-then-behind-clause-found : goal.returns-then-behind-clause-found
returns-then-behind-clause-found g c blocks laid inside =
    let inv = c.steps.invariant in
    let w = g.Self.WordMemory.word c.args.self.now in
    let state : c.load-used.result ≡ w (place_at c.args.chunk 0 + c.steps.step.offset + 8) = c.load-used.ensures.value ∙ ap (g.Self.WordMemory.word c.steps.self) (at_start_more c.args.chunk c.steps.step.offset 8) ∙ ap (λ w. w (place_at c.args.chunk 0 + c.steps.step.offset + 8)) inv.words in
    let before : c.load-behind.result ≡ w (place_at c.args.chunk 0 + c.steps.step.before + 8) = c.load-behind.ensures.value ∙ ap (g.Self.WordMemory.word c.load-used.new.self) (at_start_more c.args.chunk c.steps.step.before 8) ∙ ap (λ w. w (place_at c.args.chunk 0 + c.steps.step.before + 8)) (c.load-used.ensures.words ∙ inv.words) in
    let branch = c.if-behind.true in
    let test : eqb c.load-behind.result 1 ≡ true = grind (arith, nat_tests) in
    let hole : 0 ≡ (if eqb c.load-behind.result 1 then 0 else c.steps.step.offset - c.steps.step.before) = rw test refl in
    walk_block w (place_at c.args.chunk 0) c.args.target blocks c.steps.step _ _ (inv.walking blocks laid inside) (omega (arith, c.steps-test.false)) c.load-used.result _ state
    (hole ∙ ap (λ s. if eqb s 1 then 0 else c.steps.step.offset - c.steps.step.before) before)

pub returns-then-behind-clause-loads : goal.returns-then-behind-clause-loads
returns-then-behind-clause-loads g c blocks laid inside =
    let counted = walk_counted (g.Self.WordMemory.word c.args.self.now) (place_at c.args.chunk 0) c.args.target blocks c.steps.step _ _ (c.steps.invariant.walking blocks laid inside) (omega (arith, c.steps-test.false)) in
    let later = c.if-step.false in
    let loads = c.load-used.ensures.loads in
    let more = c.load-behind.ensures.loads in
    grind (arith, nat_tests)

-- a later one, after a free block
pub returns-else-behind-clause-found : goal.returns-else-behind-clause-found
returns-else-behind-clause-found g c blocks laid inside =
    let inv = c.steps.invariant in
    let w = g.Self.WordMemory.word c.args.self.now in
    let state : c.load-used.result ≡ w (place_at c.args.chunk 0 + c.steps.step.offset + 8) = c.load-used.ensures.value ∙ ap (g.Self.WordMemory.word c.steps.self) (at_start_more c.args.chunk c.steps.step.offset 8) ∙ ap (λ w. w (place_at c.args.chunk 0 + c.steps.step.offset + 8)) inv.words in
    let before : c.load-behind.result ≡ w (place_at c.args.chunk 0 + c.steps.step.before + 8) = c.load-behind.ensures.value ∙ ap (g.Self.WordMemory.word c.load-used.new.self) (at_start_more c.args.chunk c.steps.step.before 8) ∙ ap (λ w. w (place_at c.args.chunk 0 + c.steps.step.before + 8)) (c.load-used.ensures.words ∙ inv.words) in
    let branch = c.if-behind.false in
    let test : eqb c.load-behind.result 1 ≡ false = grind (arith, nat_tests) in
    let hole : c.steps.step.offset - c.steps.step.before ≡ (if eqb c.load-behind.result 1 then 0 else c.steps.step.offset - c.steps.step.before) = rw test refl in
    walk_block w (place_at c.args.chunk 0) c.args.target blocks c.steps.step _ _ (inv.walking blocks laid inside) (omega (arith, c.steps-test.false)) c.load-used.result _ state
    (hole ∙ ap (λ s. if eqb s 1 then 0 else c.steps.step.offset - c.steps.step.before) before)

pub returns-else-behind-clause-loads : goal.returns-else-behind-clause-loads
returns-else-behind-clause-loads g c blocks laid inside =
    let counted = walk_counted (g.Self.WordMemory.word c.args.self.now) (place_at c.args.chunk 0) c.args.target blocks c.steps.step _ _ (c.steps.invariant.walking blocks laid inside) (omega (arith, c.steps-test.false)) in
    let later = c.if-step.false in
    let loads = c.load-used.ensures.loads in
    let more = c.load-behind.ensures.loads in
    grind (arith, nat_tests)
