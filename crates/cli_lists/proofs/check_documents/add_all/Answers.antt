-- The review of the text, or its fault.
use Rattle.std.proofs.Common.{inl}
use Rattle.std.proofs.lemmas.Result.{on_ok_weaker}
use Rattle.cli_lists.specs.ListStatus.{EndsKept, HasRefused}
use Rattle.cli_lists.proofs.DocumentLemmas.{on_reviewed}
use Rattle.cli_lists.proofs.check_documents.add_all.Goals as goal

pub returns-in-Ok-clause-status : goal.returns-in-Ok-clause-status
returns-in-Ok-clause-status g c =
    let check = c.args.check.now in
    on_reviewed c.args.text.now (HasRefused check) (EndsKept (g.H.Host.text_at c.args.host.now) check) c.in-Ok.review c.add_reviewed.result
    (c.in-Ok.ensures.list, c.in-Ok.ensures.boots, c.in-Ok.ensures.told) c.add_reviewed.ensures.status

pub returns-in-Ok-clause-listed : goal.returns-in-Ok-clause-listed
returns-in-Ok-clause-listed g c =
    on_ok_weaker c.add_reviewed.result
    (λ lists. inl (c.in-Ok.review, (c.in-Ok.ensures.list, c.in-Ok.ensures.boots, c.in-Ok.ensures.told), lists)) c.add_reviewed.ensures.listed
