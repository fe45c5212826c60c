use Rattle.std.proofs.Common.{◌≡◌, ◌++◌, drop, map}
use Rattle.std.specs.List.{flat_map}
use Rattle.list_findings.specs.Objects.{seen_part}
use Rattle.list_findings.specs.Unread.{unread_in}
use Rattle.list_findings.proofs.unread_members.add_unread.Given as goal

-- the findings so far and those of the other objects
abbrev pub invariant-loop-part : goal.invariant-loop-part
invariant-loop-part l =
    l.found.items ++ flat_map unread_in (map seen_part (drop l.part-index l.parts)) ≡ l.initial.found.items ++ flat_map unread_in (map seen_part l.parts)
