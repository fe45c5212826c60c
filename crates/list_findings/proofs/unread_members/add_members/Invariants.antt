use Rattle.std.proofs.Common.{◌≡◌, ◌++◌, string_bytes}
use Rattle.std.specs.List.{flat_map}
use Rattle.list_findings.specs.Findings.{finding_on}
use Rattle.list_findings.specs.Unread.{unread}
use Rattle.list_findings.proofs.unread_members.add_members.Given as goal

-- the findings so far and those of the members that are left
abbrev pub invariant-loop-key : goal.invariant-loop-key
invariant-loop-key l =
    l.found.items ++ flat_map (λ key. finding_on l.part.part (unread l.part.owner (string_bytes key))) l.key-iterator
    ≡ l.initial.found.items ++ flat_map (λ key. finding_on l.part.part (unread l.part.owner (string_bytes key))) l.initial.key-iterator
