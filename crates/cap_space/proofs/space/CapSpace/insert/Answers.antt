-- The slot at the least free place is filled.
use Rattle.std.proofs.Common.{arith, rules}
use Rattle.std.specs.Prelude.{vec_capacity}
use Rattle.cap_space.proofs.PaddedLemmas.{next_place}
use Rattle.cap_space.proofs.PlacesLemmas.{IsLeast}
use Rattle.cap_space.proofs.SlotsLemmas.{has_room, room_above, taken_before, least_within, kept_filled, space_filled}
use Rattle.cap_space.proofs.space.CapSpace.insert.Goals as goal

pub least_free-place-requires : goal.least_free-place-requires
least_free-place-requires c = record {
  room = room_above _ _ _ _ _ c.self.invariant c.self.inside.taken.summed (has_room _ _ c.self.view_is c.requires.room) (search rules);
}

pub put-requires : goal.put-requires
put-requires c =
    let least : IsLeast c.self.inside.taken.words c.self.inside.taken.full c.self.inside.taken.summed c.least_free-place.result =
    record { within = c.least_free-place.ensures.within; free = c.least_free-place.ensures.free; first = c.least_free-place.ensures.first } in
    let before = taken_before _ _ _ _ _ c.self.invariant c.self.inside.taken.summed (has_room _ _ c.self.view_is c.requires.room) _ least in
    let within = least_within _ _ _ _ _ c.self.invariant c.self.inside.taken.summed (has_room _ _ c.self.view_is c.requires.room) _ least in
    let next = next_place c.self.inside.slots.items (vec_capacity c.self.inside.slots) c.least_free-place.result before in
    record { next = omega (arith, next, c.self.inside.slots.ok); room = omega (arith, within, c.self.invariant.reserved) }

-- the least place is found
is_least : (c : goal.After-self-1) → IsLeast c.self.inside.taken.words c.self.inside.taken.full c.self.inside.taken.summed c.least_free-place.result
is_least c = record { within = c.least_free-place.ensures.within; free = c.least_free-place.ensures.free; first = c.least_free-place.ensures.first }

pub invariant_of-self : goal.invariant_of-self
invariant_of-self c = rw (c.put.ensures.put, c.put.ensures.capacity) (kept_filled _ _ _ _ _ c.self.invariant c.self.inside.taken.summed (has_room _ _ c.self.view_is c.requires.room) _ (is_least c) _ _ c.take.ensures.taken)

pub returns-clause-taken : goal.returns-clause-taken
returns-clause-taken c =
    rw c.put.ensures.put (space_filled _ _ c.self.view_is _ _ (least_within _ _ _ _ _ c.self.invariant c.self.inside.taken.summed (has_room _ _ c.self.view_is c.requires.room) _ (is_least c)))
