-- Whether it is among those that are left.
use Rattle.std.proofs.Common.{◌≡◌, drop, map}
use Rattle.line_names.specs.Filling.{is_among}
use Rattle.line_names.specs.Views.{hole_view}
use Rattle.line_names.proofs.bound_names.is_among.Given as goal

abbrev pub invariant-loop-hole : goal.invariant-loop-hole
invariant-loop-hole l = is_among l.name (map hole_view l.holes) ≡ is_among l.name (map hole_view (drop l.hole-index l.holes))
