use Rattle.std.proofs.Common.{rules, ◌<◌, ◌^◌, arith, subst, sym}
use Rattle.own_model.specs.BestFit.{binary_digits}
use Rattle.avl_alloc.specs.Layout.{heap_of, hole_count}
use Rattle.avl_alloc.proofs.LayoutLemmas.{sound_told}
use Rattle.avl_alloc.proofs.TakenLemmas.{below_digits}
use Rattle.avl_alloc.proofs.CallLemmas.{IsChunkNext, IsAdded, more_asks, more_fits, more_holes, chunk_added}
use Rattle.avl_alloc.proofs.best_fit.BestFit.add_chunk.Given as given
use Rattle.avl_alloc.proofs.best_fit.BestFit.add_chunk.Goals as goal

pub put_in-requires-clause-stand : goal.put_in-requires-clause-stand
put_in-requires-clause-stand g c =
    let next : IsChunkNext c.args.self.now (g.M.WordMemory.word c.args.memory.now) (g.M.WordMemory.word c.set_header.new.memory) c.place_of-place.result c.args.ordinal c.args.bytes =
    record { told = sound_told _ _ c.requires.sound; next = c.requires.next; start = c.place_of-place.ensures; few = c.requires.few; sized = c.requires.size; short = c.requires.short; words = c.set_header.ensures.words } in
    (_, _, more_asks _ _ _ _ _ _ next)

pub put_in-requires-clause-fits : goal.put_in-requires-clause-fits
put_in-requires-clause-fits g c =
    let next : IsChunkNext c.args.self.now (g.M.WordMemory.word c.args.memory.now) (g.M.WordMemory.word c.set_header.new.memory) c.place_of-place.result c.args.ordinal c.args.bytes =
    record { told = sound_told _ _ c.requires.sound; next = c.requires.next; start = c.place_of-place.ensures; few = c.requires.few; sized = c.requires.size; short = c.requires.short; words = c.set_header.ensures.words } in
    rw c.set_header.ensures.rest (more_fits _ _ _ _ _ _ next _ c.requires.fits c.requires.there)

next : (g : given.Over) (c : goal.After-put_in g) →
    IsChunkNext c.args.self.now (g.M.WordMemory.word c.args.memory.now) (g.M.WordMemory.word c.set_header.new.memory) c.place_of-place.result c.args.ordinal c.args.bytes
next g c = record { told = sound_told _ _ c.requires.sound; next = c.requires.next; start = c.place_of-place.ensures; few = c.requires.few; sized = c.requires.size; short = c.requires.short; words = c.set_header.ensures.words }

done : (g : given.Over) (c : goal.After-put_in g) → IsAdded c.args.self.now c.put_in.new.self (g.M.WordMemory.word c.args.memory.now) (g.M.WordMemory.word c.put_in.new.memory) c.args.bytes
done g c = chunk_added _ _ _ _ _ _ (next g c) _ _ (c.put_in.ensures.turn _ _ (more_asks _ _ _ _ _ _ (next g c)))

pub returns : goal.returns
returns g c =
    let done = done g c in
    let h = heap_of c.args.self.now (g.M.WordMemory.word c.args.memory.now) in
    record {
      heap = done.heap;
      sound = done.sound;
      sizes = done.sizes;
      others = done.others;
      rest = search rules;
      loads = omega (
        arith,
        c.set_header.ensures.loads,
        c.put_in.ensures.loads _ _ (binary_digits (hole_count h)) (more_asks _ _ _ _ _ _ (next g c))
            (subst (λ k. k < 2 ^ binary_digits (hole_count h)) (sym (more_holes _ _ _ _ _ _ (next g c))) (below_digits (hole_count h))),
      );
    }
