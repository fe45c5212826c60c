-- The replies are computed, down to their digits.
use Rattle.std.proofs.Common.{refl}
use Rattle.std.specs.Fmt.{digits}
use Rattle.own_model.specs.Zeros.{zeros}
use Rattle.own_model.proofs.object_service.object_requests_are_refused_in_order.Goals as goal

pub returns-clause-makes : goal.returns-clause-makes
unfolding digits zeros
returns-clause-makes c = refl

pub returns-clause-others : goal.returns-clause-others
unfolding digits zeros
returns-clause-others c = refl

pub returns-clause-sizes : goal.returns-clause-sizes
unfolding digits zeros
returns-clause-sizes c = refl

pub returns-clause-bytes : goal.returns-clause-bytes
unfolding digits zeros
returns-clause-bytes c = refl

pub returns-clause-capability : goal.returns-clause-capability
unfolding digits zeros
returns-clause-capability c = refl

pub returns-clause-contents : goal.returns-clause-contents
unfolding digits zeros
returns-clause-contents c = refl
