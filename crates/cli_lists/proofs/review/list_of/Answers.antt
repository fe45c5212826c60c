-- The fault of the text, with its status.
use Rattle.cli_lists.proofs.ReviewLemmas.{fault_ends}
use Rattle.cli_lists.proofs.review.list_of.Goals as goal

pub returns-in-Ok-clause-read : goal.returns-in-Ok-clause-read
returns-in-Ok-clause-read c = (c.in-Ok.ensures.list, c.in-Ok.ensures.boots)

pub returns-in-Err-clause-failed : goal.returns-in-Err-clause-failed
returns-in-Err-clause-failed c =
    fault_ends c.args.text.now c.in-Err.placed.fault c.boot_status.result c.in-Err.ensures.fault c.boot_status.ensures
