-- The replies are computed, down to their digits.
use Rattle.std.proofs.Common.{refl}
use Rattle.std.specs.Fmt.{digits}
use Rattle.own_model.specs.Zeros.{zeros}
use Rattle.own_model.proofs.object_service.objects_are_named_in_order.Goals as goal

pub returns-clause-names : goal.returns-clause-names
unfolding digits zeros
returns-clause-names c = refl

pub returns-clause-again : goal.returns-clause-again
unfolding digits zeros
returns-clause-again c = refl
