-- A write that fails in one part loses the parts after it.
use Rattle.run_devices.proofs.GatheredLemmas.{Tells-more, Tells-front, told_err, told_more}
use Rattle.run_scenario.proofs.csv_row.put_quoted.Goals as goal

pub returns-in_err-put-clause-told : goal.returns-in_err-put-clause-told
returns-in_err-put-clause-told g c = told_err _ _ _ c.from_residual.ensures.1 (_, Tells-front _ (c.in_err-put.ensures.told.1))

pub returns-in_err-put_escaped-clause-told : goal.returns-in_err-put_escaped-clause-told
returns-in_err-put_escaped-clause-told g c =
    told_err _ _ _ c.from_residual-in_err-put_escaped.ensures.1 (_, Tells-more c.in_ok-put.ensures.told (Tells-front _ (c.in_err-put_escaped.ensures.told.1)))

pub returns-clause-told : goal.returns-clause-told
returns-clause-told g c = told_more _ _ _ _ c.in_ok-put.ensures.told (told_more _ _ _ _ c.in_ok-put_escaped.ensures.told c.put-2.ensures.told)
