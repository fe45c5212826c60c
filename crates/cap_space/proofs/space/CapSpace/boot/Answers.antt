-- No place has been in use, and all are free.
use Rattle.std.proofs.Common.{refl, arith}
use Rattle.std.specs.Prelude.{vec_capacity}
use Rattle.cap_space.proofs.PaddedLemmas.{padded_none}
use Rattle.cap_space.proofs.SlotsLemmas.{space_fresh, kept_fresh}
use Rattle.cap_space.proofs.space.CapSpace.boot.Goals as goal

pub invariant_of-result : goal.invariant_of-result
invariant_of-result c =
    let capacity = vec_capacity c.in_ok-slots.slots in
    kept_fresh _ capacity _ (padded_none c.in_ok-slots.slots.items capacity capacity c.in_ok-slots.ensures.none refl) (omega (arith, c.in_ok-slots.ensures.room, c.requires)) c.all_free.ensures

pub returns : goal.returns
returns c = space_fresh _ c.args.places (padded_none c.in_ok-slots.slots.items (vec_capacity c.in_ok-slots.slots) c.args.places c.in_ok-slots.ensures.none c.in_ok-slots.ensures.room)
