-- The laws as they are proved.
use Rattle.own_model.proofs.HeapGapLemmas.{heap_gap_is_there, heap_gaps_agree}
use Rattle.own_model.proofs.heap_window.heap_has_gap.Goals as goal

pub returns-clause-there : goal.returns-clause-there
returns-clause-there c = heap_gap_is_there

pub returns-clause-agree : goal.returns-clause-agree
returns-clause-agree c = heap_gaps_agree
