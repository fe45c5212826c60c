use Rattle.layer_tests.specs.Cells.{cell_at}
use Rattle.layer_tests.proofs.CellLemmas.{trial_empty}
use Rattle.layer_tests.proofs.best_fit.empty_heap.Goals as goal

pub invariant_of-result-2 : goal.invariant_of-result-2
invariant_of-result-2 g c = trial_empty c.new.result c.args.words.items (c.new.ensures.sound (cell_at c.args.words.items)) c.new.ensures.sizes
