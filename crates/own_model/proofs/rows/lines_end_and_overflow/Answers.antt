-- The transcript is computed, with the line that is too long.
use Rattle.std.proofs.Common.{refl}
use Rattle.std.specs.Fmt.{digits}
use Rattle.own_model.proofs.rows.lines_end_and_overflow.Goals as goal

pub returns : goal.returns
unfolding digits
returns c = refl
