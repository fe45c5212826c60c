-- Both transcripts are computed, down to their digits.
use Rattle.std.proofs.Common.{refl}
use Rattle.std.specs.Fmt.{digits}
use Rattle.own_model.proofs.rows.exits_are_reported.Goals as goal

pub returns-clause-gone : goal.returns-clause-gone
unfolding digits
returns-clause-gone c = refl

pub returns-clause-refused : goal.returns-clause-refused
returns-clause-refused c = refl
