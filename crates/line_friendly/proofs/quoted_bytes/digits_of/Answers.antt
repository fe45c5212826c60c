-- The kit writes both digits, since there is room for two.
use Rattle.std.proofs.Common.{◌∙◌, ◌∷◌, [], arith}
use Rattle.own_model.proofs.HexLemmas.{hex_text_is}
use Rattle.text_codec.proofs.HexLemmas.{when_ok}
use Rattle.line_friendly.proofs.quoted_bytes.digits_of.Goals as goal

pub returns : goal.returns
returns c =
    when_ok _ _ (c.encode_to_slice.ensures.fits.1 (omega (arith, c.encode_to_slice.auto.output))) c.encode_to_slice.ensures.written
    ∙ hex_text_is (c.args.byte ∷ [])
