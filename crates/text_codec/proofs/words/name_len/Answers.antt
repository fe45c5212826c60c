use Rattle.std.proofs.Common.{◌≡◌, None, position, not, arith}
use Rattle.std.proofs.lemmas.Bool.Decides.{nat_tests}
use Rattle.own_model.specs.Text.{is_name_byte}
use Rattle.text_codec.proofs.NameLemmas.{name_len-le}
use Rattle.text_codec.proofs.words.name_len.Goals as goal

pub returns-in-None : goal.returns-in-None
returns-in-None c =
    let most = name_len-le c.args.text.now in
    let nowhere : position (λ b. not (is_name_byte b)) c.args.text.now ≡ None = grind (arith, c.find_other.ensures, c.in-None.is) in
    grind (arith, nat_tests, most, nowhere)
