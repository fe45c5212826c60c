use Rattle.std.proofs.Common.{refl, arith}
use Rattle.own_model.specs.SessionArgs.{is_quotable}
use Rattle.text_codec.specs.declared.byte_kinds.TheConstants.{KINDS}
use Rattle.text_codec.proofs.KindLemmas.{kind_is}
use Rattle.text_codec.proofs.byte_kinds.is_quotable.Goals as goal

pub returns : goal.returns
returns c = kind_is KINDS 4 is_quotable c.args.byte (omega arith) refl
