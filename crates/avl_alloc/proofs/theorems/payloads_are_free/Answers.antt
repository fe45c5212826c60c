use Rattle.avl_alloc.proofs.GivenLemmas.{payload_kept}
use Rattle.avl_alloc.proofs.theorems.payloads_are_free.Goals as goal

pub returns : goal.returns
returns c fit words sound chunk offset from size = payload_kept fit words sound chunk offset from size
