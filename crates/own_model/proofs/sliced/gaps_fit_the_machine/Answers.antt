-- The RAM in use covers the pages of what stands there.
use Rattle.own_model.proofs.SlicedNewLemmas.{machine_gap, covered_given}
use Rattle.own_model.proofs.sliced.gaps_fit_the_machine.Goals as goal

pub returns-clause-same : goal.returns-clause-same
returns-clause-same c = machine_gap

pub returns-clause-given : goal.returns-clause-given
returns-clause-given c = covered_given
