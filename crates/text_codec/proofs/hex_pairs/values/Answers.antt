-- The masks of both halves.
use Rattle.text_codec.proofs.PairLemmas.{values_by_bits}
use Rattle.text_codec.proofs.hex_pairs.values.Goals as goal

pub returns : goal.returns
returns c = values_by_bits c.args.digits
