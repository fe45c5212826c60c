-- Both transcripts are computed, with their long lines.
use Rattle.std.proofs.Common.{refl}
use Rattle.own_model.proofs.rows.longest_line_is_read.Goals as goal

pub returns-clause-longest : goal.returns-clause-longest
returns-clause-longest c = refl

pub returns-clause-longer : goal.returns-clause-longer
returns-clause-longer c = refl
