-- What is behind the zeros in front are the number's digits.
use Rattle.std.proofs.Common.{refl, ap, ◌∙◌, arith}
use Rattle.std.specs.Int.Count.{count_leading_zeros}
use Rattle.hex.specs.Hex.{encode_lower}
use Rattle.text_codec.proofs.HexLemmas.{when_ok}
use Rattle.text_codec.proofs.SpellingLemmas.{digits_behind}
use Rattle.text_codec.proofs.digits.write_hex.Goals as goal

pub returns-clause-written : goal.returns-clause-written
returns-clause-written c =
    let all = when_ok _ _ (c.encode_to_slice.ensures.fits.1 (omega (arith, c.encode_to_slice.auto.output))) c.encode_to_slice.ensures.written in
    digits_behind c.args.number (count_leading_zeros 64 c.args.number) c.min.result c.encode_to_slice.new.output c.ranges.number.fits refl c.min.ensures
    (all ∙ ap encode_lower c.to_be_bytes.ensures)
