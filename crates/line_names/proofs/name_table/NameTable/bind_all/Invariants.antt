-- What is left to bind, and then all is bound.
use Rattle.std.proofs.Common.{◌≡◌, drop, map}
use Rattle.line_names.specs.Learning.{learnt_of}
use Rattle.line_names.specs.Views.{hole_view}
use Rattle.line_names.proofs.name_table.NameTable.bind_all.Given as goal

abbrev pub invariant-loop-hole : goal.invariant-loop-hole
invariant-loop-hole l =
    learnt_of l.initial.self l.reply l.expected (map hole_view l.holes)
    ≡ learnt_of l.self l.reply l.expected (map hole_view (drop l.hole-index l.holes))
