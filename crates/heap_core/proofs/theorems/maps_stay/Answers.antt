-- The law is a lemma that callers cite as well.
use Rattle.heap_core.proofs.StayLemmas.{empty_map}
use Rattle.heap_core.proofs.theorems.maps_stay.Goals as goal

pub returns : goal.returns
returns c = record { empty = empty_map }
