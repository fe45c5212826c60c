-- Each piece is put behind those that were put before.
use Rattle.std.proofs.Common.{refl, sym, subst, ◌∙◌, arith}
use Rattle.std.specs.Prelude.{replicate}
use Rattle.std.specs.Option.{IsSome}
use Rattle.std.specs.FinMap.{get}
use Rattle.own_model.proofs.NatMapLemmas.{IsSome-insert_same}
use Rattle.dataspace_core.specs.Store.{Store}
use Rattle.heap_core.proofs.ClearLemmas.{piece_fits, piece_put, zeros_none}
use Rattle.heap_core.proofs.clear.clear.Goals as goal

pub loop-done-init : goal.loop-done-init
loop-done-init c = record { put = sym (zeros_none _ _ c.requires.exists c.args.offset); within = omega arith }

pub write-requires-clause-exists : goal.write-requires-clause-exists
write-requires-clause-exists c = subst (λ (s : Store). IsSome (get s.spaces c.args.ds.0)) (sym c.loop-done.invariant.put) (IsSome-insert_same _ _ _ _ refl)

pub write-requires-clause-range : goal.write-requires-clause-range
write-requires-clause-range c =
    let range = c.requires.range in
    let least = c.min-piece.ensures in
    piece_fits c.args.memory.now c.args.ds.0 c.requires.exists c.loop-done.memory c.args.offset c.loop-done.done c.min-piece.result (replicate 1024 0) c.loop-done.invariant.put refl (omega (arith, least)) (omega (arith, least, range))

pub loop-done-preserved : goal.loop-done-preserved
loop-done-preserved c =
    let range = c.requires.range in
    let least = c.min-piece.ensures in
    record {
      put = c.write.ensures.written
          ∙ piece_put c.args.memory.now c.args.ds.0 c.requires.exists c.loop-done.memory c.args.offset c.loop-done.done c.min-piece.result (replicate 1024 0) c.loop-done.invariant.put refl (omega (arith, least)) (omega (arith, least, range));
      within = omega (arith, least);
    }
