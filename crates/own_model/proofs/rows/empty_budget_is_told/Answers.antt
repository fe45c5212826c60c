-- The transcript is computed, down to its digits.
use Rattle.std.proofs.Common.{refl}
use Rattle.std.specs.Fmt.{digits}
use Rattle.own_model.proofs.rows.empty_budget_is_told.Goals as goal

pub returns-clause-limits : goal.returns-clause-limits
unfolding digits
returns-clause-limits c = refl
