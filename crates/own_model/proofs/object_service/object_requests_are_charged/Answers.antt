-- The replies are computed, down to their digits.
use Rattle.std.proofs.Common.{refl}
use Rattle.std.specs.Fmt.{digits}
use Rattle.own_model.specs.Zeros.{zeros}
use Rattle.own_model.proofs.object_service.object_requests_are_charged.Goals as goal

pub returns-clause-nodes : goal.returns-clause-nodes
unfolding digits zeros
returns-clause-nodes c = refl

pub returns-clause-contents : goal.returns-clause-contents
unfolding digits zeros
returns-clause-contents c = refl

pub returns-clause-drops : goal.returns-clause-drops
unfolding digits zeros
returns-clause-drops c = refl

pub returns-clause-both : goal.returns-clause-both
unfolding digits zeros
returns-clause-both c = refl
