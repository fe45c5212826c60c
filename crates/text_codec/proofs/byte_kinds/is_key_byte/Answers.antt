use Rattle.std.proofs.Common.{refl, arith}
use Rattle.own_model.specs.SessionArgs.{is_key_byte}
use Rattle.text_codec.specs.declared.byte_kinds.TheConstants.{KINDS}
use Rattle.text_codec.proofs.KindLemmas.{kind_is}
use Rattle.text_codec.proofs.byte_kinds.is_key_byte.Goals as goal

pub returns : goal.returns
returns c = kind_is KINDS 2 is_key_byte c.args.byte (omega arith) refl
