-- The regions that a free leaves are those of other selectors.
use Rattle.own_model.proofs.StepSoundLemmas.{freed_has_none}
use Rattle.own_model.proofs.regions.freed_has_no_regions.Goals as goal

pub returns : goal.returns
returns c = freed_has_none
