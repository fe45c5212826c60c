-- The last of the list is given back each time.
use Rattle.heap_core.proofs.EndLargeLemmas.{ends_large_more, listed_there, some_left}
use Rattle.heap_core.proofs.heap.Heap.end_large.Goals as goal

pub large_ds-ds-requires-clause-sound : goal.large_ds-ds-requires-clause-sound
large_ds-ds-requires-clause-sound c = (c.loop-self.memory, c.loop-self.invariant.sound)

pub large_ds-ds-requires-clause-there : goal.large_ds-ds-requires-clause-there
large_ds-ds-requires-clause-there c =
    listed_there _ _ _ c.deref.ensures.0 c.len-index.ensures.value (some_left _ _ _ c.is_empty.ensures c.loop-self-test.true c.len-index.ensures.value)

pub loop-self-preserved : goal.loop-self-preserved
loop-self-preserved c =
    ends_large_more _ _ _ _ _ _ _ _ _ _ c.loop-self.invariant c.give_large.ensures.given c.give_large.ensures.keeps c.give_large.ensures.loses.left
