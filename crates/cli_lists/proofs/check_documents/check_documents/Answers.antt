-- The status of what is listed, if it is printed.
use Rattle.cli_lists.specs.ListStatus.{EndsKept, HasRefused}
use Rattle.cli_lists.proofs.DocumentLemmas.{printed_text}
use Rattle.cli_lists.proofs.ReviewLemmas.{on_text, unread}
use Rattle.cli_lists.proofs.check_documents.check_documents.Goals as goal

pub returns-in-Ok : goal.returns-in-Ok
returns-in-Ok g c =
    let texts = g.H.Host.text_at c.args.host.now in
    let check = c.args.check.now in
    on_text texts c.args.settings check.list.now (HasRefused check) (EndsKept texts check) c.in-Ok.text.items c.printed.result c.in-Ok.ensures.text
    (printed_text c.in-Ok.text.items c.as_slice.result.now (HasRefused check) (EndsKept texts check) c.add_all-added.result c.printed.result
    c.as_slice.ensures.value c.add_all-added.ensures.status c.printed.ensures.ended c.printed.ensures.failed)

pub returns-in-Err : goal.returns-in-Err
returns-in-Err g c =
    let texts = g.H.Host.text_at c.args.host.now in
    let check = c.args.check.now in
    unread texts c.args.settings check.list.now (HasRefused check) (EndsKept texts check) c.in-Err.status c.in-Err.ensures.failed
