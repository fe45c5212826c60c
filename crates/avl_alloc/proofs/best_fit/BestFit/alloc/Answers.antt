use Rattle.std.proofs.Common.{rules, ◌≡◌, ◌∙◌, ap, arith, subst, sym}
use Rattle.std.specs.Option.{option_map}
use Rattle.own_model.specs.Heap.{IsBlockSize}
use Rattle.own_model.specs.BestFit.{block_size, best_hole, holes_of, taken_at}
use Rattle.avl_alloc.specs.Found.{block_addr}
use Rattle.avl_alloc.specs.Layout.{heap_of, bytes_of}
use Rattle.avl_alloc.proofs.LayoutLemmas.{sound_told}
use Rattle.avl_alloc.proofs.CallLemmas.{holes_fit, best_few, told_low, found_none, found_some, IsTaken, hole_taken, block_sized, addr_is}
use Rattle.avl_alloc.proofs.best_fit.BestFit.alloc.Given as given
use Rattle.avl_alloc.proofs.best_fit.BestFit.alloc.Goals as goal

pub find-place-requires : goal.find-place-requires
find-place-requires g c =
    let told = sound_told _ _ c.requires.sound in
    (told.tree, told.laid.stands, holes_fit (bytes_of c.args.self.now) _ told.tree c.requires.fits told.laid.nodes)

-- no hole is large enough
pub returns-then-place-eq0-clause-best : goal.returns-then-place-eq0-clause-best
returns-then-place-eq0-clause-best g c =
    let told = sound_told _ _ c.requires.sound in
    let h = heap_of c.args.self.now (g.M.WordMemory.word c.args.memory.now) in
    let none = found_none _ _ _ _ told (c.find-place.ensures.found told.tree told.laid.stands) c.if-place-eq0.true in
    ap (option_map block_addr) (none ∙ ap (λ z. best_hole z (holes_of h)) c.block_bytes-size.ensures)

pub returns-then-place-eq0-clause-heap : goal.returns-then-place-eq0-clause-heap
returns-then-place-eq0-clause-heap g c =
    let kept : g.M.WordMemory.word c.find-place.new.memory ≡ g.M.WordMemory.word c.args.memory.now = λ i. (c.find-place.ensures.view i).rest in
    let told = sound_told _ _ c.requires.sound in
    let h = heap_of c.args.self.now (g.M.WordMemory.word c.args.memory.now) in
    let none = found_none _ _ _ _ told (c.find-place.ensures.found told.tree told.laid.stands) c.if-place-eq0.true in
    ap (heap_of c.args.self.now) kept
    ∙ ap (λ o. taken_at (block_size c.args.bytes) o h) (none ∙ ap (λ z. best_hole z (holes_of h)) c.block_bytes-size.ensures)

pub returns-then-place-eq0-clause-loads : goal.returns-then-place-eq0-clause-loads
returns-then-place-eq0-clause-loads g c =
    let told = sound_told _ _ c.requires.sound in
    omega (arith, told_low _ _ told, c.find-place.ensures.loads told.tree told.laid.stands)

-- or one is
pub take-requires-clause-stand : goal.take-requires-clause-stand
take-requires-clause-stand g c =
    let kept : g.M.WordMemory.word c.find-place.new.memory ≡ g.M.WordMemory.word c.args.memory.now = λ i. (c.find-place.ensures.view i).rest in
    let told = sound_told _ _ c.requires.sound in
    let is = found_some _ _ _ _ told (c.find-place.ensures.found told.tree told.laid.stands) c.if-place-eq0.false in
    (is.site, is.hole.size, rw kept is.stand, is.fits)

pub overflow_sub-result : goal.overflow_sub-result
overflow_sub-result g c =
    let told = sound_told _ _ c.requires.sound in
    let is = found_some _ _ _ _ told (c.find-place.ensures.found told.tree told.laid.stands) c.if-place-eq0.false in
    omega (arith, is.there)

done : (g : given.Over) (c : goal.After-take g) → IsTaken c.args.self.now c.take.new.self (g.M.WordMemory.word c.args.memory.now) (g.M.WordMemory.word c.take.new.memory) c.args.bytes
done g c =
    let kept : g.M.WordMemory.word c.find-place.new.memory ≡ g.M.WordMemory.word c.args.memory.now = λ i. (c.find-place.ensures.view i).rest in
    let told = sound_told _ _ c.requires.sound in
    let is = found_some _ _ _ _ told (c.find-place.ensures.found told.tree told.laid.stands) c.if-place-eq0.false in
    hole_taken _ _ _ _ c.args.bytes _ _ told c.block_bytes-size.ensures (subst IsBlockSize (sym c.block_bytes-size.ensures) (block_sized c.args.bytes)) is
    (rw kept at (c.take.ensures.turn is.site is.hole.size (rw kept is.stand) is.fits))

pub returns : goal.returns
returns g c =
    let done = done g c in
    let kept : g.M.WordMemory.word c.find-place.new.memory ≡ g.M.WordMemory.word c.args.memory.now = λ i. (c.find-place.ensures.view i).rest in
    let told = sound_told _ _ c.requires.sound in
    let is = found_some _ _ _ _ told (c.find-place.ensures.found told.tree told.laid.stands) c.if-place-eq0.false in
    record {
      best = addr_is _ _ _ _ is ∙ ap (λ z. option_map block_addr (best_hole z (holes_of (heap_of c.args.self.now (g.M.WordMemory.word c.args.memory.now))))) c.block_bytes-size.ensures;
      heap = done.heap;
      sound = done.sound;
      sizes = done.sizes;
      others = done.others;
      refused = search rules;
      unchanged = search rules;
      rest = search rules;
      loads = omega (
        arith,
        told_low _ _ told,
        c.find-place.ensures.loads told.tree told.laid.stands,
        c.take.ensures.loads is.site is.hole.size _ (rw kept is.stand) is.fits
            (best_few _ _ _ _ is),
      );
    }
