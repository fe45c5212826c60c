-- The other heap stays sound.
use Rattle.layer_tests.proofs.HeapLemmas.{beside_after}
use Rattle.layer_tests.proofs.heaps.TwoHeaps.give.Goals as goal

pub returns : goal.returns
returns c = beside_after _ _ _ _ _ _ _ c.requires c.free.ensures.sound c.free.ensures.others c.free.ensures.payer
