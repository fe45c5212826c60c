-- A run goes on from the state that the calls before left.
use Rattle.own_model.proofs.RunLemmas.{own_run-append}
use Rattle.own_model.proofs.runs.own_run_over_append.Goals as goal

pub returns : goal.returns
returns c = own_run-append
