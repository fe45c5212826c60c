-- The law is a lemma that callers cite as well.
use Rattle.heap_core.proofs.BlockRangeLemmas.{blocks_are_regions}
use Rattle.heap_core.proofs.theorems.blocks_are_regions.Goals as goal

pub returns : goal.returns
returns c = record { ranges = blocks_are_regions }
