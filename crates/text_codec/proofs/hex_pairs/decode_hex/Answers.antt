-- A byte more at a time.
use Rattle.std.proofs.Common.{◌+◌, ◌*◌, ◌∙◌, arith}
use Rattle.hex.proofs.HexLemmas.{decode_of-even}
use Rattle.hex.proofs.Pairs.{decode_step, decode_done}
use Rattle.text_codec.proofs.HexLemmas.{are_digits}
use Rattle.text_codec.proofs.hex_pairs.decode_hex.Goals as goal

pub loop-i-preserved : goal.loop-i-preserved
loop-i-preserved c =
    decode_step _ _ c.loop-i.i _ (omega arith) (omega arith) (c.byte_of_pair.ensures (2 * c.loop-i.i)) c.loop-i.invariant

pub byte_of_pair-requires-clause-high : goal.byte_of_pair-requires-clause-high
byte_of_pair-requires-clause-high c = (are_digits c.args.hex.now c.requires.hex).1 (2 * c.loop-i.i) (omega arith)

pub byte_of_pair-requires-clause-low : goal.byte_of_pair-requires-clause-low
byte_of_pair-requires-clause-low c = (are_digits c.args.hex.now c.requires.hex).1 (2 * c.loop-i.i + 1) (omega arith)

pub returns : goal.returns
returns c =
    let even = (are_digits c.args.hex.now c.requires.hex).0 in
    decode_of-even c.args.hex.now even ∙ decode_done _ c.loop-i.bytes c.loop-i.i (omega arith) (omega (arith, even)) c.loop-i.invariant
