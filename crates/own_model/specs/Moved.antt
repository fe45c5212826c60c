-- A finite map with each of its keys moved up by as much.
use Rattle.std.specs.Prelude.{ℕ, ◌+◌, map}
use Rattle.std.specs.FinMap.{entries, from_entries}
use Rattle.own_model.specs.NatMap.{NatMap}

-- what the map has, each under a key that is so much higher
unfoldable pub moved_up : {X : Type 0} → ℕ → NatMap X → NatMap X
moved_up by m = from_entries (map (λ e. (e.0 + by, e.1)) (entries m))
