-- What is left of the text is still to be passed.
use Rattle.std.proofs.Common.{◌≡◌, ◌+◌, ◌≤◌, drop}
use Rattle.line_names.specs.Lists.{place_from, place_of}
use Rattle.line_names.proofs.list_filling.place_of.Given as goal

abbrev pub invariant-loop-byte : goal.invariant-loop-byte
invariant-loop-byte l = (place_from l.place (drop l.byte-index l.text) ≡ place_of l.text)
    × ((l.place.line ≤ l.byte-index + 1) × (l.place.column ≤ l.byte-index + 1))
