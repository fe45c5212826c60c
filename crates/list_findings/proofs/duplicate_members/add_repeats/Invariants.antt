-- The findings so far, and those of the other keys.
use Rattle.std.proofs.Common.{◌≡◌, ◌++◌, drop, map}
use Rattle.std.specs.List.{enumerate_from, flat_map}
use Rattle.list_findings.specs.JsonKeys.{seen}
use Rattle.list_findings.specs.Repeated.{repeat_of}
use Rattle.list_findings.proofs.duplicate_members.add_repeats.Given as goal

abbrev pub invariant-loop-number : goal.invariant-loop-number
invariant-loop-number l =
    l.found.items ++ flat_map (repeat_of l.places) (enumerate_from l.number (map seen (drop l.number l.key-items)))
    ≡ l.initial.found.items ++ flat_map (repeat_of l.places) (enumerate_from 0 (map seen l.key-items))
