-- Byte by byte.
use Rattle.own_model.proofs.LogLemmas.{writes_lines, writes_add}
use Rattle.own_model.proofs.log_service.writes_are_lines.Goals as goal

pub returns-clause-lines : goal.returns-clause-lines
returns-clause-lines c = writes_lines

pub returns-clause-parted : goal.returns-clause-parted
returns-clause-parted c = writes_add
