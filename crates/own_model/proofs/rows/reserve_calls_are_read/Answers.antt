-- Each of these texts is read by computation.
use Rattle.std.proofs.Common.{refl}
use Rattle.own_model.proofs.rows.reserve_calls_are_read.Goals as goal

pub returns-clause-reserve : goal.returns-clause-reserve
returns-clause-reserve c = refl

pub returns-clause-request : goal.returns-clause-request
returns-clause-request c = refl

pub returns-clause-nothing : goal.returns-clause-nothing
returns-clause-nothing c = refl

pub returns-clause-empty : goal.returns-clause-empty
returns-clause-empty c = refl

pub returns-clause-spaces : goal.returns-clause-spaces
returns-clause-spaces c = refl

pub returns-clause-others : goal.returns-clause-others
returns-clause-others c = refl
