-- Each digit is read as it is written.
use Rattle.own_model.proofs.HexReadBackLemmas.{address_read}
use Rattle.own_model.proofs.calls.addresses_are_read_back.Goals as goal

pub returns : goal.returns
returns c = address_read
