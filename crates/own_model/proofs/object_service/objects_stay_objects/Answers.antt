-- By what a request can do.
use Rattle.own_model.proofs.ObjectServiceLemmas.{no_objects_are, objects_stay}
use Rattle.own_model.proofs.object_service.objects_stay_objects.Goals as goal

pub returns-clause-first : goal.returns-clause-first
returns-clause-first c = no_objects_are

pub returns-clause-request : goal.returns-clause-request
returns-clause-request c = objects_stay
