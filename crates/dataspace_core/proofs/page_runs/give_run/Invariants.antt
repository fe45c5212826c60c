-- The pages before this index are given back.
use Rattle.dataspace_core.specs.Layout.{IsGiven}
use Rattle.dataspace_core.proofs.page_runs.give_run.Given as goal

abbrev pub invariant-loop-index : goal.invariant-loop-index
invariant-loop-index l = IsGiven l.initial.pool l.pool l.table.items l.run.start l.index
