-- A status of 0 is that of a write of all documents.
use Rattle.cli_base.proofs.StatusLemmas.{written_whole}
use Rattle.cli_base.proofs.status.print_on.Goals as goal

pub returns-in-Ok-clause-printed : goal.returns-in-Ok-clause-printed
returns-in-Ok-clause-printed g c = λ zero.
    rw c.in-Ok.is (written_whole c.write_all.result c.status_of.result _ c.status_of.ensures.written (rw c.as_slice.ensures.value at c.write_all.ensures.bytes) zero)
