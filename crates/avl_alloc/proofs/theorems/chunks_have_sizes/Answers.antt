use Rattle.avl_alloc.proofs.LayoutLemmas.{sound_sized}
use Rattle.avl_alloc.proofs.theorems.chunks_have_sizes.Goals as goal

pub returns : goal.returns
returns c = sound_sized
