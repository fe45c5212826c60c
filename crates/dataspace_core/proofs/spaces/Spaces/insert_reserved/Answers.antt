-- The new dataspace has a place, and its start stands under its key.
use Rattle.dataspace_core.proofs.SpacesLemmas.{room_there, get-placed_none, placed-inserted}
use Rattle.dataspace_core.proofs.spaces.Spaces.insert_reserved.Goals as goal

pub insert_reserved-key-requires : goal.insert_reserved-key-requires
insert_reserved-key-requires c = room_there _ _ c.self.view_is c.requires.room

pub returns-clause-was_vacant : goal.returns-clause-was_vacant
returns-clause-was_vacant c = rw (← c.self.view_is) (get-placed_none c.self.inside.kept c.self.inside.starts.items c.insert_reserved-key.result c.insert_reserved-key.ensures.was_vacant)

pub returns-clause-updates : goal.returns-clause-updates
returns-clause-updates c =
    rw (← c.self.view_is)
    (placed-inserted _ _ _ _ c.self.invariant c.insert_reserved-key.ensures.capacity _ _ _ c.insert_reserved-key.ensures.updates
    (rw c.insert_reserved-key.ensures.capacity at c.insert_reserved-key.ensures.key_in_range))
