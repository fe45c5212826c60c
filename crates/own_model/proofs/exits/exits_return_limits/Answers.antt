-- What a call leaves of limits tells what init is given.
use Rattle.own_model.proofs.StepLimitLemmas.{limits_returned}
use Rattle.own_model.proofs.exits.exits_return_limits.Goals as goal

pub returns : goal.returns
returns c = limits_returned
