-- The name, and then the value.
use Rattle.run_devices.proofs.GatheredLemmas.{Tells-front, told_err, told_more}
use Rattle.view_diagnostics.proofs.ShownLemmas.{null_value, digits_value}
use Rattle.view_diagnostics.proofs.front.put_member.Goals as goal

pub returns-in_err-put-clause-output : goal.returns-in_err-put-clause-output
returns-in_err-put-clause-output g c = told_err _ _ _ c.from_residual.ensures.1 (_, Tells-front _ (c.in_err-put.ensures.told.1))

pub returns-in-Some-clause-output : goal.returns-in-Some-clause-output
returns-in-Some-clause-output g c = rw (c.in-Some.is, digits_value) (told_more _ _ _ _ c.in_ok-put.ensures.told c.put_number.ensures.output)

pub returns-in-None-clause-output : goal.returns-in-None-clause-output
returns-in-None-clause-output g c = rw (c.in-None.is, null_value) (told_more _ _ _ _ c.in_ok-put.ensures.told c.put-in-None.ensures.told)
