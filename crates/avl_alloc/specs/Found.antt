-- Blocks as calls return them.
use Rattle.std.specs.Prelude.{ℕ}
use Rattle.own_model.specs.BestFit.{Spot}
use Rattle.avl_alloc.specs.declared.best_fit.BlockAddr.{BlockAddr}
use Rattle.avl_alloc.specs.declared.best_fit.UsedBlock.{UsedBlock}

-- a used block of a chunk, by its offset and its size
abbrev pub used_block : ℕ → ℕ × ℕ → UsedBlock
used_block chunk block = record { chunk = chunk; offset = block.0; size = block.1 }

-- the address of a hole
abbrev pub block_addr : Spot → BlockAddr
block_addr hole = record { chunk = hole.chunk; offset = hole.offset }
