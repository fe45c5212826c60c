use Rattle.avl_alloc.proofs.LayoutLemmas.{sound_kept}
use Rattle.avl_alloc.proofs.theorems.heap_stays.Goals as goal

pub returns : goal.returns
returns c = sound_kept
