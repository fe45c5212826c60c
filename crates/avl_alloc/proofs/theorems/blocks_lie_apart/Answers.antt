use Rattle.avl_alloc.proofs.LayoutLemmas.{sound_apart}
use Rattle.avl_alloc.proofs.theorems.blocks_lie_apart.Goals as goal

pub returns : goal.returns
returns c = sound_apart
