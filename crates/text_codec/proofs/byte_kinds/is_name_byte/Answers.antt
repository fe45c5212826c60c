use Rattle.std.proofs.Common.{refl, arith}
use Rattle.own_model.specs.Text.{is_name_byte}
use Rattle.text_codec.specs.declared.byte_kinds.TheConstants.{KINDS}
use Rattle.text_codec.proofs.KindLemmas.{kind_is}
use Rattle.text_codec.proofs.byte_kinds.is_name_byte.Goals as goal

pub returns : goal.returns
returns c = kind_is KINDS 1 is_name_byte c.args.byte (omega arith) refl
