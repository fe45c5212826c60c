-- Each of these texts is read by computation.
use Rattle.std.proofs.Common.{refl}
use Rattle.own_model.proofs.rows.session_calls_are_read.Goals as goal

pub returns-clause-arguments : goal.returns-clause-arguments
returns-clause-arguments c = refl

pub returns-clause-spaces : goal.returns-clause-spaces
returns-clause-spaces c = refl

pub returns-clause-nothing : goal.returns-clause-nothing
returns-clause-nothing c = refl

pub returns-clause-empty : goal.returns-clause-empty
returns-clause-empty c = refl

pub returns-clause-more : goal.returns-clause-more
returns-clause-more c = refl

pub returns-clause-no_more : goal.returns-clause-no_more
returns-clause-no_more c = refl

pub returns-clause-request : goal.returns-clause-request
returns-clause-request c = refl

pub returns-clause-no_request : goal.returns-clause-no_request
returns-clause-no_request c = refl

pub returns-clause-close : goal.returns-clause-close
returns-clause-close c = refl

pub returns-clause-services : goal.returns-clause-services
returns-clause-services c = refl

pub returns-clause-selectors : goal.returns-clause-selectors
returns-clause-selectors c = refl
