use Rattle.std.proofs.Common.{arith}
use Rattle.text_codec.proofs.KindLemmas.{digits_past_none}
use Rattle.text_codec.proofs.hex_text.excess.Goals as goal

pub returns : goal.returns
returns c = rw (c.min.ensures, c.saturating_sub-past_digits.ensures, c.saturating_sub-past_letters.ensures) (digits_past_none c.args.byte (omega arith))
