-- The text is read by computing.
use Rattle.list_parser.proofs.MachineLemmas.{text_is_read}
use Rattle.list_parser.proofs.machine_a.machine_a_is_read.Goals as goal

pub returns : goal.returns
returns c = text_is_read
