-- A slab as a finite map.
use Rattle.std.specs.Prelude.{map}
use Rattle.std.specs.Option.{option_map}
use Rattle.slab.specs.Slab.{Slab}
use Rattle.own_model.specs.NatMap.{NatMap}
use Rattle.own_model.specs.Slots.{held_from}

-- what a slab holds, by its keys, each value read by f
unfoldable pub map_of : {T X : Type 0} → (T → X) → Slab T → NatMap X
map_of f s = held_from 0 (map (option_map f) s.slots)
