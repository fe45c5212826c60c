-- The other heap stays sound.
use Rattle.layer_tests.proofs.HeapLemmas.{beside_after}
use Rattle.layer_tests.proofs.heaps.TwoHeaps.take.Goals as goal

pub returns : goal.returns
returns c = beside_after _ _ _ _ _ _ _ c.requires c.alloc.ensures.sound c.alloc.ensures.others c.alloc.ensures.payer
