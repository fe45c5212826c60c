-- A write that fails in the name of the side loses the answer.
use Rattle.run_devices.proofs.GatheredLemmas.{Tells-front, told_err, told_more}
use Rattle.view_runs.proofs.alone_run.put_side.Goals as goal

pub returns-in_err-put-clause-told : goal.returns-in_err-put-clause-told
returns-in_err-put-clause-told g c = told_err _ _ _ c.from_residual.ensures.1 (_, Tells-front _ (c.in_err-put.ensures.told.1))

pub returns-clause-told : goal.returns-clause-told
returns-clause-told g c = told_more _ _ _ _ c.in_ok-put.ensures.told c.put_answer.ensures.told
