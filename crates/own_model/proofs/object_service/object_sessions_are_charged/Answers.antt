-- What requests of objects and of a buffer keep.
use Rattle.own_model.proofs.ObjectKeptLemmas.{all_fit_objects, all_keep_object_charges, all_keep_object_limits, all_keep_objects, all_keep_objects_within}
use Rattle.own_model.proofs.object_service.object_sessions_are_charged.Goals as goal

pub returns-clause-objects : goal.returns-clause-objects
returns-clause-objects c = all_keep_objects

pub returns-clause-charges : goal.returns-clause-charges
returns-clause-charges c = all_keep_object_charges

pub returns-clause-limits : goal.returns-clause-limits
returns-clause-limits c = all_keep_object_limits

pub returns-clause-within : goal.returns-clause-within
returns-clause-within c = all_keep_objects_within

pub returns-clause-long : goal.returns-clause-long
returns-clause-long c = all_fit_objects
