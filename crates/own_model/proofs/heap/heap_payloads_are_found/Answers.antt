-- Payloads of the heap are found until they are given back.
use Rattle.own_model.proofs.HeapPayloadLemmas.{heap_payload_found, heap_payload_gone}
use Rattle.own_model.proofs.SlicedPayloadLemmas.{block_fits}
use Rattle.own_model.proofs.heap.heap_payloads_are_found.Goals as goal

pub returns-clause-fit : goal.returns-clause-fit
returns-clause-fit c = block_fits

pub returns-clause-found : goal.returns-clause-found
returns-clause-found c = λ s address count block payload h there some from to. heap_payload_found s h address count block payload there some from to

pub returns-clause-freed : goal.returns-clause-freed
returns-clause-freed c = λ s address count block payload h there some from to. heap_payload_gone s h address count block payload there some from to
