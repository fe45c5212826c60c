use Rattle.std.proofs.Common.{refl, arith}
use Rattle.std.proofs.lemmas.Bool.Decides.{nat_tests}
use Rattle.text_codec.specs.declared.hex_text.TheConstants.{VALUES}
use Rattle.text_codec.proofs.KindLemmas.{value_is}
use Rattle.text_codec.proofs.hex_text.hex_digit.Goals as goal

pub returns-then-sign-eq64 : goal.returns-then-sign-eq64
returns-then-sign-eq64 c = let told = value_is VALUES c.args.byte (omega arith) refl in grind (arith, nat_tests, told)

pub returns-else-sign-eq64 : goal.returns-else-sign-eq64
returns-else-sign-eq64 c = let told = value_is VALUES c.args.byte (omega arith) refl in grind (arith, nat_tests, told)
