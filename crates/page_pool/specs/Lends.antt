-- A block whose bytes are lent to be written.
use Rattle.std.specs.Prelude.{ℕ, List}
use Rattle.std.specs.Borrow.{Lends, MutBor, Fml, u8, Array}
use Rattle.page_pool.specs.declared.block.HostBlock.{HostBlock}
use Rattle.page_pool.specs.contracts.block.HostBlock.{the_row}

-- the block with these bytes
abbrev pub with_all : HostBlock → List ℕ → HostBlock
with_all block bytes = record block { bytes = bytes }

-- the block ends with what was written through r
abbrev pub LendsBytes : MutBor HostBlock → MutBor (List ℕ) → Fml
LendsBytes block r = Lends the_row (Array u8 0) block r (with_all block.now)
