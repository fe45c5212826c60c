-- By what is found after a request.
use Rattle.own_model.proofs.ObjectReadLemmas.{made_are_there, others_stay, resized_have_units, same_units_kept}
use Rattle.own_model.proofs.object_service.objects_are_as_requested.Goals as goal

pub returns-clause-makes : goal.returns-clause-makes
returns-clause-makes c = made_are_there

pub returns-clause-resizes : goal.returns-clause-resizes
returns-clause-resizes c = resized_have_units

pub returns-clause-same : goal.returns-clause-same
returns-clause-same c = same_units_kept

pub returns-clause-others : goal.returns-clause-others
returns-clause-others c = others_stay
