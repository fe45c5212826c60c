-- Payloads of the heap lie apart from one another and from those of sliced blocks.
use Rattle.own_model.proofs.HeapPayloadLemmas.{heap_payload_within, heap_payloads_apart, heap_beside}
use Rattle.own_model.proofs.heap.heap_payloads_lie_apart.Goals as goal

pub returns-clause-window : goal.returns-clause-window
returns-clause-window c = λ s block payload h there. heap_payload_within s h block payload there

pub returns-clause-apart : goal.returns-clause-apart
returns-clause-apart c = λ s a b x y h first second differ. heap_payloads_apart s h a b x y first second differ

pub returns-clause-beside : goal.returns-clause-beside
returns-clause-beside c = λ s a b x y h first second. heap_beside s h a b x y first second
