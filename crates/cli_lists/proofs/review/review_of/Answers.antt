-- The fault of the text, with its status.
use Rattle.cli_lists.proofs.ReviewLemmas.{fault_ends}
use Rattle.cli_lists.proofs.review.review_of.Goals as goal

pub returns-in-Ok-clause-reviewed : goal.returns-in-Ok-clause-reviewed
returns-in-Ok-clause-reviewed c = (c.in-Ok.ensures.list, c.in-Ok.ensures.boots, c.in-Ok.ensures.told)

pub returns-in-Err-clause-failed : goal.returns-in-Err-clause-failed
returns-in-Err-clause-failed c =
    fault_ends c.args.text.now c.in-Err.placed.fault c.boot_status.result c.in-Err.ensures.fault c.boot_status.ensures
