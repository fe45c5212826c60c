-- What the selector names is looked at first, and then how many regions there are.
use Rattle.own_model.proofs.StepSoundLemmas.{full_refuses, unnamed_refused}
use Rattle.own_model.proofs.regions.full_maps_refuse.Goals as goal

pub returns-clause-full : goal.returns-clause-full
returns-clause-full c = full_refuses

pub returns-clause-unnamed : goal.returns-clause-unnamed
returns-clause-unnamed c = unnamed_refused
