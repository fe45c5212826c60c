-- The digits so far, and then those of the bytes that are left, are those of the bytes.
use Rattle.std.proofs.Common.{◌≡◌, ◌*◌, ◌++◌, take, drop}
use Rattle.hex.specs.Hex.{encode_lower}
use Rattle.text_codec.proofs.hex_pairs.encode_hex.Given as goal

abbrev pub invariant-loop-i : goal.invariant-loop-i
invariant-loop-i l = take (2 * l.i) l.hex ++ encode_lower (drop l.i l.bytes) ≡ encode_lower l.bytes
