-- A server is turned away before its call is looked at.
use Rattle.own_model.proofs.StepLimitLemmas.{server_stays}
use Rattle.own_model.proofs.limits.servers_stay.Goals as goal

pub returns : goal.returns
returns c = server_stays
