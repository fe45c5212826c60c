use Rattle.own_model.proofs.StartListedLemmas.{routes_lead}
use Rattle.own_model.proofs.listed.routes_lead_to_providers.Goals as goal

pub returns : goal.returns
returns c = routes_lead
