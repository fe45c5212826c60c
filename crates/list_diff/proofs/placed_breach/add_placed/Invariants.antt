use Rattle.std.proofs.Common.{◌≡◌, ◌++◌, drop, map}
use Rattle.list_diff.specs.PlacedBreaches.{place_at, places}
use Rattle.list_policy.specs.Line.{line_at}
use Rattle.list_diff.proofs.placed_breach.add_placed.Given as goal

-- the breaches so far, and those that are left
abbrev pub invariant-loop-breach : goal.invariant-loop-breach
invariant-loop-breach l =
    places l.found.items ++ map (place_at l.list (line_at l.line)) (drop l.breach-index l.breaches)
    ≡ places l.initial.found.items ++ map (place_at l.list (line_at l.line)) l.breaches
