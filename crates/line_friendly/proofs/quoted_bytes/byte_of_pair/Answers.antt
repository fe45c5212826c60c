-- Where a digit is none, the kit decodes nothing.
use Rattle.std.proofs.Common.{◌∙◌, sym}
use Rattle.line_friendly.proofs.SignLemmas.{no_byte_read}
use Rattle.line_friendly.proofs.quoted_bytes.byte_of_pair.Goals as goal

pub returns-in-Err : goal.returns-in-Err
returns-in-Err c = sym (no_byte_read c.args.high c.args.low _ (sym c.from_hex.ensures ∙ c.in-Err.is))
