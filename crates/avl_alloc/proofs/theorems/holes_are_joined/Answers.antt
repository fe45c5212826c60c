use Rattle.avl_alloc.proofs.LayoutLemmas.{sound_blocks}
use Rattle.avl_alloc.proofs.theorems.holes_are_joined.Goals as goal

pub returns : goal.returns
returns c = sound_blocks
