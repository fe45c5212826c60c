-- Two digits more at a time.
use Rattle.std.proofs.Common.{◌<◌, ◌+◌, ◌*◌, length, arith, rules}
use Rattle.hex.specs.Hex.{lower_digits}
use Rattle.hex.proofs.Pairs.{encode_done}
use Rattle.text_codec.proofs.PairLemmas.{encode_next}
use Rattle.text_codec.proofs.hex_pairs.encode_hex.Goals as goal

pub loop-i-preserved : goal.loop-i-preserved
loop-i-preserved c =
    let fits : 2 * c.loop-i.i + 1 < length c.loop-i.hex = omega arith in
    encode_next _ _ _ c.loop-i.i (omega arith) fits (search (rules, c.type_inv.bytes c.loop-i.i)) c.pair_of_byte.ensures c.loop-i.invariant

pub returns : goal.returns
returns c = encode_done lower_digits _ _ c.loop-i.i (omega arith) (omega arith) c.loop-i.invariant
