-- The first block stands where its header says. Where there is no first one, none is left.
use Rattle.sliced_heap.proofs.EndLemmas.{first_header, first_block, ends_further, ends_all}
use Rattle.sliced_heap.proofs.heap.SlicedHeap.end.Goals as goal

pub load-start-requires-clause-header : goal.load-start-requires-clause-header
load-start-requires-clause-header c = first_header _ _ _ c.loop-ds.invariant.sound _ c.in-Some.ensures.some

pub give_back-requires-clause-block : goal.give_back-requires-clause-block
give_back-requires-clause-block c = first_block _ _ _ c.loop-ds.invariant.sound _ c.in-Some.ensures.some _ c.load-start.ensures

pub loop-ds-preserved : goal.loop-ds-preserved
loop-ds-preserved c =
    ends_further _ _ _ _ _ _ _ _ _ _ c.loop-ds.invariant c.give_back.ensures.given c.give_back.ensures.keeps.sound c.give_back.ensures.keeps.others c.give_back.ensures.keeps.payer

pub returns-clause-given : goal.returns-clause-given
returns-clause-given c = ends_all _ _ _ _ _ _ c.loop-ds.invariant c.in_default.ensures.none
