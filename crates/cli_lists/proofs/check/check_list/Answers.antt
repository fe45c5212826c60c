-- By the review of the list.
use Rattle.list_review.specs.declared.review.Review.{Review}
use Rattle.cli_lists.specs.ListStatus.{EndsKept, HasRefused, IsReviewOf}
use Rattle.cli_lists.proofs.ReviewLemmas.{not_booted, on_read}
use Rattle.cli_lists.proofs.check.check_list.Goals as goal

pub returns-in-Ok : goal.returns-in-Ok
returns-in-Ok g c =
    let texts = g.H.Host.text_at c.args.host.now in
    let asked = c.args.asked.now in
    on_read texts c.args.settings asked.list.now Review IsReviewOf (HasRefused asked) (EndsKept texts asked) c.in-Ok.review c.check_review.result
    c.in-Ok.ensures.reviewed c.check_review.ensures

pub returns-in-Err : goal.returns-in-Err
returns-in-Err g c =
    let texts = g.H.Host.text_at c.args.host.now in
    let asked = c.args.asked.now in
    not_booted texts c.args.settings asked.list.now Review IsReviewOf (HasRefused asked) (EndsKept texts asked) c.in-Err.status c.in-Err.ensures.failed
