-- A call is in the part or not, whatever follows it.
use Rattle.own_model.proofs.RunLemmas.{own_part-append}
use Rattle.own_model.proofs.runs.own_part_over_append.Goals as goal

pub returns : goal.returns
returns c = own_part-append
