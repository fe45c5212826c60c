use Rattle.std.proofs.Common.{◌≡◌, ◌++◌, drop}
use Rattle.std.specs.List.{flat_map}
use Rattle.list_findings.specs.Spare.{spare_in}
use Rattle.list_findings.proofs.unused_budget.spare_of.Given as goal

-- what is found so far and what is to be found in the other entries
abbrev pub invariant-loop-entry : goal.invariant-loop-entry
invariant-loop-entry l =
    l.spare.items ++ flat_map spare_in (drop l.entry-index l.entry-items) ≡ flat_map spare_in l.entry-items
