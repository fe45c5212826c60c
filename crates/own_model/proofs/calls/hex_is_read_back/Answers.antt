-- Each byte is read from its two digits.
use Rattle.own_model.proofs.HexReadBackLemmas.{hex_read}
use Rattle.own_model.proofs.calls.hex_is_read_back.Goals as goal

pub returns : goal.returns
returns c = hex_read
