-- By what a request can do.
use Rattle.own_model.proofs.ObjectChargeLemmas.{charges_stay, limits_stay, within_stays}
use Rattle.own_model.proofs.object_service.objects_are_charged.Goals as goal

pub returns-clause-charges : goal.returns-clause-charges
returns-clause-charges c = charges_stay

pub returns-clause-limits : goal.returns-clause-limits
returns-clause-limits c = limits_stay

pub returns-clause-within : goal.returns-clause-within
returns-clause-within c = within_stays
