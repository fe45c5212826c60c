-- Each law is a lemma that callers cite as well.
use Rattle.heap_core.proofs.RangeLemmas.{payload_poked, payload_read}
use Rattle.heap_core.proofs.theorems.payloads_are_memory.Goals as goal

pub returns-clause-poked : goal.returns-clause-poked
returns-clause-poked c = payload_poked

pub returns-clause-read : goal.returns-clause-read
returns-clause-read c = payload_read
