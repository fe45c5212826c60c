use Rattle.std.proofs.Common.{take, map}
use Rattle.list_diff.specs.PlacedBreaches.{ArePlaced}
use Rattle.list_policy.specs.Line.{line_at}
use Rattle.list_diff.proofs.placed_breach.placed_breaches.Given as goal

-- the breaches of the lines so far
abbrev pub invariant-loop-place : goal.invariant-loop-place
invariant-loop-place l = ArePlaced l.list (map line_at (take l.place l.lines)) l.found.items
