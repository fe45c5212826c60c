use Rattle.std.proofs.Common.{◌≡◌, ◌++◌, drop, map}
use Rattle.std.specs.List.{enumerate_from, flat_map}
use Rattle.list_faults.specs.Values.{seen}
use Rattle.list_findings.specs.Objects.{parts_of_entry, seen_part}
use Rattle.list_findings.proofs.object_parts.object_parts.Given as goal

-- the objects so far and those of the other entries
abbrev pub invariant-loop-number : goal.invariant-loop-number
invariant-loop-number l =
    map seen_part l.parts.items ++ flat_map parts_of_entry (enumerate_from l.number (drop l.number (map seen l.entry-items)))
    ≡ map seen_part l.initial.parts.items ++ flat_map parts_of_entry (enumerate_from 0 (map seen l.entry-items))
