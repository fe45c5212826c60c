-- Payloads lie apart, and above the user window.
use Rattle.own_model.proofs.SlicedPayloadLemmas.{payload_fits, payload_is_found, payload_is_gone}
use Rattle.own_model.proofs.sliced.payloads_are_found.Goals as goal

pub returns-clause-fit : goal.returns-clause-fit
returns-clause-fit c = payload_fits

pub returns-clause-found : goal.returns-clause-found
returns-clause-found c = λ s address count block payload h there some from to. payload_is_found s h address count block payload there some from to

pub returns-clause-freed : goal.returns-clause-freed
returns-clause-freed c = λ s address count block payload h there some from to. payload_is_gone s h address count block payload there some from to
