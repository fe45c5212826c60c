-- Bytes that fit stand where they were put, and the regions stay.
use Rattle.own_model.proofs.SlicedPayloadLemmas.{poke_read}
use Rattle.own_model.proofs.regions.pokes_are_read.Goals as goal

pub returns : goal.returns
returns c = poke_read
