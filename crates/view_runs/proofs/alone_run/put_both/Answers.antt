-- A write that fails in one part loses the parts after it.
use Rattle.run_devices.proofs.GatheredLemmas.{Tells-more, Tells-front, told_err, told_more}
use Rattle.view_runs.proofs.alone_run.put_both.Goals as goal

pub returns-in_err-put_heard-clause-told : goal.returns-in_err-put_heard-clause-told
returns-in_err-put_heard-clause-told g c = told_err _ _ _ c.from_residual.ensures.1 (_, Tells-front _ (Tells-front _ (c.in_err-put_heard.ensures.told.1)))

pub returns-in_err-put_side-clause-told : goal.returns-in_err-put_side-clause-told
returns-in_err-put_side-clause-told g c =
    told_err _ _ _ c.from_residual-in_err-put_side.ensures.1 (_, Tells-front _ (Tells-more c.in_ok-put_heard.ensures.told (c.in_err-put_side.ensures.told.1)))

pub returns-clause-told : goal.returns-clause-told
returns-clause-told g c = told_more _ _ _ _ (Tells-more c.in_ok-put_heard.ensures.told c.in_ok-put_side.ensures.told) c.put_side-2.ensures.told
