use Rattle.std.proofs.Common.{arith}
use Rattle.layer_tests.proofs.CellLemmas.{cell_chunk, trial_next, trial_more}
use Rattle.layer_tests.proofs.best_fit.HeapTrial.add_chunk.Goals as goal

pub add_chunk-requires-clause-next : goal.add_chunk-requires-clause-next
add_chunk-requires-clause-next g c = trial_next _ _ _ c.self.invariant

pub add_chunk-requires-clause-there : goal.add_chunk-requires-clause-there
add_chunk-requires-clause-there g c = cell_chunk _ _ _ (omega arith) c.requires.1

pub invariant_of-self : goal.invariant_of-self
invariant_of-self g c =
    trial_more _ _ _ _ _ c.args.bytes c.self.invariant c.add_chunk.ensures.rest (cell_chunk _ _ _ (omega arith) c.requires.1) c.add_chunk.ensures.sound c.add_chunk.ensures.sizes
