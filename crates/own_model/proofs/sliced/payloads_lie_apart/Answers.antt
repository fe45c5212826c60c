-- What stands in the heap window lies apart, header and payload together.
use Rattle.own_model.proofs.SlicedPayloadLemmas.{payload_within, payloads_apart}
use Rattle.own_model.proofs.sliced.payloads_lie_apart.Goals as goal

pub returns-clause-window : goal.returns-clause-window
returns-clause-window c = λ s block payload h there. payload_within s h block payload there

pub returns-clause-apart : goal.returns-clause-apart
returns-clause-apart c = λ s a b x y h first second differ. payloads_apart s h a b x y first second differ
