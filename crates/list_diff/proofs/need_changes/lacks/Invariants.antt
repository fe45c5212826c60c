use Rattle.std.proofs.Common.{◌≡◌, ◌++◌, drop}
use Rattle.std.specs.List.{flat_map}
use Rattle.list_diff.specs.Needs.{shortfall, shortfalls}
use Rattle.list_diff.proofs.need_changes.lacks.Given as goal

-- the components that are found so far, and those among the rest
abbrev pub invariant-loop-now : goal.invariant-loop-now
invariant-loop-now l =
    l.found.items ++ flat_map (shortfall l.before) (drop l.now-index l.after) ≡ shortfalls l.before l.after
