-- What a poke does to the memory.
use Rattle.std.specs.Prelude.{ℕ, List}
use Rattle.dataspace_core.specs.Store.{Store, space_at, part, part_with_bytes, PartBecomes}

-- bytes are written into a dataspace from an offset on
abbrev pub PutsBytes : ℕ → ℕ → List ℕ → Store → Store → Type 0
PutsBytes ds offset bytes old new =
    PartBecomes (space_at old ds).payer (part_with_bytes (part (space_at old ds).payer old) ds offset bytes) old new
