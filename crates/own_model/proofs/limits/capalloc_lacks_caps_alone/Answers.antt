-- An RPC object asks for no bytes.
use Rattle.own_model.proofs.StepLimitLemmas.{capalloc_short}
use Rattle.own_model.proofs.limits.capalloc_lacks_caps_alone.Goals as goal

pub returns : goal.returns
returns c = capalloc_short
