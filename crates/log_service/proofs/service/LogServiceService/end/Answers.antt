-- The heap goes as it came.
use Rattle.server_frame.proofs.HoldingLemmas.{session_heap}
use Rattle.log_service.proofs.service.LogServiceService.end.Goals as goal

pub returns-clause-heap : goal.returns-clause-heap
returns-clause-heap c = rw c.take_heap.ensures (session_heap _ _ _ c.requires.account c.requires.kept.linked)
