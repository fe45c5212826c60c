-- What init keeps and what it hands out are the whole machine.
use Rattle.own_model.proofs.StartLemmas.{start_balanced_for}
use Rattle.own_model.proofs.start.boots_balanced.Goals as goal

pub returns : goal.returns
returns c = start_balanced_for
