-- The replies are computed, down to their digits.
use Rattle.std.proofs.Common.{refl}
use Rattle.std.specs.Fmt.{digits}
use Rattle.own_model.specs.Zeros.{zeros}
use Rattle.own_model.proofs.object_service.object_requests_are_read.Goals as goal

pub returns-clause-numbers : goal.returns-clause-numbers
unfolding digits zeros
returns-clause-numbers c = refl

pub returns-clause-makes : goal.returns-clause-makes
unfolding digits zeros
returns-clause-makes c = refl

pub returns-clause-others : goal.returns-clause-others
unfolding digits zeros
returns-clause-others c = refl

pub returns-clause-files : goal.returns-clause-files
unfolding digits zeros
returns-clause-files c = refl

pub returns-clause-buffer : goal.returns-clause-buffer
unfolding digits zeros
returns-clause-buffer c = refl
