use Rattle.std.proofs.Common.{◌≡◌, ◌++◌, drop, map}
use Rattle.std.specs.List.{flat_map}
use Rattle.list_diff.specs.Breaches.{breach_changes, came, change_at, gone}
use Rattle.list_diff.proofs.policy_breaches.breach_changes.Given as goal

-- the breaches that are gone so far, and those among the rest
abbrev pub invariant-loop-gone : goal.invariant-loop-gone
invariant-loop-gone l =
    map change_at l.found.items ++ flat_map (gone l.after) (drop l.gone-index l.before) ≡ flat_map (gone l.after) l.before

-- the changes so far, and the new breaches among the rest
abbrev pub invariant-loop-came : goal.invariant-loop-came
invariant-loop-came l =
    map change_at l.found.items ++ flat_map (came l.before) (drop l.came-index l.after) ≡ breach_changes l.before l.after
