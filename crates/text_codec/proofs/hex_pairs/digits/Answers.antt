-- The mask of both halves.
use Rattle.text_codec.proofs.PairLemmas.{digits_by_bits}
use Rattle.text_codec.proofs.hex_pairs.digits.Goals as goal

pub returns : goal.returns
returns c = digits_by_bits c.args.values c.requires.high c.requires.low
