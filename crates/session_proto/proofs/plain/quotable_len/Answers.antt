-- All before the first byte of another kind are of the kind.
use Rattle.std.proofs.Common.{sym}
use Rattle.own_model.specs.SessionArgs.{is_quotable}
use Rattle.session_proto.proofs.PlainLemmas.{kind-found, kind-all}
use Rattle.session_proto.proofs.plain.quotable_len.Goals as goal

pub returns-in-Some-clause-quotable : goal.returns-in-Some-clause-quotable
returns-in-Some-clause-quotable c = kind-found is_quotable c.args.text.now _ (sym c.in-Some.ensures.place)

pub returns-in-None-clause-quotable : goal.returns-in-None-clause-quotable
returns-in-None-clause-quotable c = kind-all is_quotable c.args.text.now (sym c.in-None.ensures.place)
