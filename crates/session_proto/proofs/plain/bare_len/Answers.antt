-- All before the first byte of another kind are of the kind.
use Rattle.std.proofs.Common.{sym}
use Rattle.own_model.specs.Text.{is_name_byte}
use Rattle.session_proto.proofs.PlainLemmas.{kind-found, kind-all}
use Rattle.session_proto.proofs.plain.bare_len.Goals as goal

pub returns-in-Some-clause-bare : goal.returns-in-Some-clause-bare
returns-in-Some-clause-bare c = kind-found is_name_byte c.args.text.now _ (sym c.in-Some.ensures.place)

pub returns-in-None-clause-bare : goal.returns-in-None-clause-bare
returns-in-None-clause-bare c = kind-all is_name_byte c.args.text.now (sym c.in-None.ensures.place)
