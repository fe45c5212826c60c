use Rattle.std.proofs.Common.{◌≡◌, ◌++◌, drop, map}
use Rattle.std.specs.List.{enumerate_from, flat_map}
use Rattle.serde_json.specs.View.{view}
use Rattle.list_faults.specs.Values.{found_within, seen, with_own}
use Rattle.list_faults.proofs.values.+find_within.Given as goal

-- what is found so far and what is to be found from here on
abbrev pub invariant-loop-place : goal.invariant-loop-place
invariant-loop-place l =
    map seen l.found.items ++ flat_map (with_own l.deeper l.above) (enumerate_from l.place (drop l.place (map view l.entry-items)))
    ≡ map seen l.initial.found.items ++ found_within l.deeper l.above (map view l.entry-items)

abbrev pub decreases-find_within : goal.decreases-find_within
decreases-find_within l = l.deeper
