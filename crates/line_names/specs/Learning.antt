-- The bindings of a reply.
use Rattle.std.specs.Prelude.{ℕ, List, [], ◌∷◌, if◌then◌else◌}
use Rattle.line_friendly.specs.Expected.{meets, matched_by}
use Rattle.line_names.specs.Filling.{FilledLine, BoundName}
use Rattle.line_names.specs.NameTable.{NameTable, with_bound}

-- each name is bound to the part that its star matches
abbrev pub learnt_of : NameTable → List ℕ → List ℕ → List BoundName → NameTable
learnt_of known reply expected [] = known
learnt_of known reply expected (h ∷ hs) =
    learnt_of (with_bound known h.name (matched_by reply expected h.place)) reply expected hs

-- if the reply matches its expectation
abbrev pub learnt : NameTable → FilledLine → List ℕ → NameTable
learnt known filled reply =
    if meets reply filled.expected then learnt_of known reply filled.expected filled.holes else known
