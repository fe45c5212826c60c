use Rattle.std.proofs.Common.{◌≡◌, ◌++◌, drop}
use Rattle.std.specs.List.{enumerate_from, flat_map}
use Rattle.list_diff.specs.Changes.{arrival}
use Rattle.list_diff.proofs.entry_changes.add_arrivals.Given as goal

-- what is told so far and what is to be told of the other entries
abbrev pub invariant-loop-number : goal.invariant-loop-number
invariant-loop-number l =
    l.found.items ++ flat_map (arrival l.before) (enumerate_from l.number (drop l.number l.entries))
    ≡ l.initial.found.items ++ flat_map (arrival l.before) (enumerate_from 0 l.entries)
