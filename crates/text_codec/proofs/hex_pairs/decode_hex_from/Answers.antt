-- A part of the digits stands for a part of the bytes.
use Rattle.std.proofs.Common.{◌≡◌, ◌+◌, ◌-◌, ◌*◌, length, ap, arith}
use Rattle.std.specs.Result.{is_ok}
use Rattle.text_codec.proofs.HexLemmas.{bytes_within, ok_bytes, only_bytes}
use Rattle.text_codec.proofs.hex_pairs.decode_hex_from.Goals as goal

pub decode_hex-requires-clause-hex : goal.decode_hex-requires-clause-hex
decode_hex-requires-clause-hex c =
    let n = length c.args.bytes.now in
    let digits : 2 * (c.args.start + n) - 2 * c.args.start ≡ 2 * n = omega arith in
    let all = ok_bytes _ c.requires.hex in
    rw digits (ap is_ok (bytes_within c.args.start n c.args.hex.now all.0 all.1))

pub returns : goal.returns
returns c = λ all is.
    let n = length c.args.bytes.now in
    let digits : 2 * (c.args.start + n) - 2 * c.args.start ≡ 2 * n = omega arith in
    only_bytes _ _ _ c.decode_hex.ensures (rw digits (bytes_within c.args.start n c.args.hex.now all is))
